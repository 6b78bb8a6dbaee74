-- What was found of lists that are those of a world.
use Rattle.std.proofs.Common.{◌≡◌, ℕ, List, Option, subst}
use Rattle.wu_audit.specs.Against.{FirstAgainst, FirstPairAgainst}

-- the first against a fact in a list that is this one, told as it is told here
first_moved : {X : Type 0} (P : X → Type 0) (xs ys : List X) (found it : Option ℕ) → xs ≡ ys → found ≡ it → FirstAgainst P xs found → FirstAgainst P ys it
first_moved P xs ys found it same is first = subst (λ r. FirstAgainst P ys r) is (subst (λ zs. FirstAgainst P zs found) same first)

-- the first against a relation
pub pair_moved : {X : Type 0} (R : X → X → Type 0) (xs ys : List X) (found it : Option ℕ) → xs ≡ ys → found ≡ it → FirstPairAgainst R xs found → FirstPairAgainst R ys it
pair_moved R xs ys found it same is first = subst (λ r. FirstPairAgainst R ys r) is (subst (λ zs. FirstPairAgainst R zs found) same first)

-- where the fact is one of another list too
pub first_moved_by : {X Y : Type 0} (P : List Y → X → Type 0) (us vs : List Y) (xs ys : List X) (found it : Option ℕ) → us ≡ vs → xs ≡ ys → found ≡ it
    → FirstAgainst (P us) xs found → FirstAgainst (P vs) ys it
first_moved_by P us vs xs ys found it other same is first = first_moved (P vs) xs ys found it same is (subst (λ ws. FirstAgainst (P ws) xs found) other first)
