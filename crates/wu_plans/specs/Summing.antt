-- How the sums of grants are made, one grant after another.
use Rattle.std.specs.Prelude.{◌≡◌, ◌≢◌, ◌⊎◌, ℕ, ◌+◌, ◌≤◌, ◌^◌, ⊤, List, [], ◌∷◌, ◌++◌}
use Rattle.std.specs.Cmp.Lexicographic.{slice_cmp}
use Rattle.std.specs.Ordering.{nat_cmp}
use Rattle.std.specs.declared.cmp.Ordering.TheVariants.{Less}
use Rattle.wu_core.specs.declared.workunit.Grant.{Grant}
use Rattle.wu_store.specs.Sums.{AreSums}
use Rattle.wu_schema.specs.declared.rows.HostSum.{HostSum}

-- The sum of one grant.
abbrev pub sum_of : Grant → HostSum
sum_of g = record { name = g.host; total = g.credit; grants = 1 }

-- The sum with one grant more.
abbrev pub with_more : Grant → HostSum → HostSum
with_more g sum = record sum { total = sum.total + g.credit; grants = sum.grants + 1 }

-- The two sums would together exceed 64 bits.
abbrev pub PassTogether : HostSum → HostSum → Type 0
PassTogether a b = (2 ^ 64 ≤ a.total + b.total) ⊎ (2 ^ 64 ≤ a.grants + b.grants)

-- The next sum, if there is one, is for a host with a later name, or the two would together exceed 64 bits.
abbrev pub IsBegunBehind : HostSum → List HostSum → Type 0
IsBegunBehind a [] = ⊤
IsBegunBehind a (b ∷ more) = (slice_cmp nat_cmp a.name b.name ≡ Less) ⊎ PassTogether a b

-- There is one sum for each host, except where two would together exceed 64 bits.
abbrev pub AreFew : List HostSum → Type 0
AreFew [] = ⊤
AreFew (a ∷ more) = IsBegunBehind a more × AreFew more

-- The last sum, if there is one, is for no host with a later name than this.
abbrev pub AreUpTo : List ℕ → List HostSum → Type 0
AreUpTo host [] = ⊤
AreUpTo host (a ∷ []) = slice_cmp nat_cmp host a.name ≢ Less
AreUpTo host (a ∷ b ∷ more) = AreUpTo host (b ∷ more)

-- If the old sums are those of some grants, the new ones are those of these and one more. They stay few if no old sum
-- is for a later host.
pub record SumsAlso (g : Grant) (old new : List HostSum) : Type 0 where
  pub sums : (grants : List Grant) → AreSums old grants → AreSums new (grants ++ g ∷ [])
  pub few : AreFew old → AreUpTo g.host old → AreFew new
  pub up_to : (host : List ℕ) → slice_cmp nat_cmp host g.host ≢ Less → AreUpTo host new
