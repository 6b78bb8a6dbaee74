-- What the SELECTs of the views and of the summary answer of the world that the tables stand for.
use Rattle.wu_schema.proofs.Words.{AllByRecursion, Grant, IsAscending, Less, List, Output, Row, Term, [], ap, col, column, map, refl, ℕ, ◌∙◌, ◌∷◌, ◌≡◌}
use Rattle.sqlite_value.proofs.OrderLemmas.{value_cmp-Text}
use Rattle.wu_core.proofs.HostLemmas.{Ascends, below}
use Rattle.wu_schema.specs.Refines.{host_of}
use Rattle.wu_store.proofs.OrderAnswers.{by_key}

-- ---- all hosts, in order of their names

abbrev pub host_shows : List Term
host_shows = col 1 1 ∷ col 1 2 ∷ col 1 3 ∷ []

-- of the cells of a host its name, and what is shown
abbrev pub host_pair : Row → Output
host_pair c = (column c 0 ∷ [], column c 0 ∷ column c 1 ∷ column c 2 ∷ [])

module _ (grants : List Grant) where
  abbrev pub name_pair : List ℕ → Output
  name_pair name = host_pair (host_of grants name)

  below_all : (name : List ℕ) (hosts : List (List ℕ)) → AllByRecursion (below name) hosts → AllByRecursion (λ b. by_key (name_pair name) b ≡ Less) (map name_pair hosts)
  below_all name [] low = tt
  below_all name (h ∷ hosts) low = (value_cmp-Text name h ∙ low.0, below_all name hosts low.1)

  pub names_rise : (hosts : List (List ℕ)) → Ascends below hosts → IsAscending (λ a b. by_key a b ≡ Less) (map name_pair hosts)
  names_rise [] up = tt
  names_rise (h ∷ hosts) up = (below_all h hosts up.0, names_rise hosts up.1)

  pub names_shown : (hosts : List (List ℕ)) → map (λ (o : Output). o.1) (map name_pair hosts) ≡ map (host_of grants) hosts
  names_shown [] = refl
  names_shown (h ∷ hosts) = ap (λ rows. host_of grants h ∷ rows) (names_shown hosts)
