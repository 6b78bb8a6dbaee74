use Rattle.wu_schema.proofs.Words.{List, length, map, number, take, ℕ, [], ◌∷◌, ◌≡◌}
use Rattle.wu_store.proofs.due.numbers_in.Given as goal

abbrev pub invariant-loop-row : goal.invariant-loop-row
invariant-loop-row l = record {
  long : length l.found.items ≡ l.row-index;
  so_far : (numbers : List ℕ) → l.rows ≡ map (λ n. number n ∷ []) numbers → l.found.items ≡ take l.row-index numbers;
}
