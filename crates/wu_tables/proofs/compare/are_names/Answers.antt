use Rattle.std.proofs.Common.{Bor, List, rules, tests, ℕ}
use Rattle.std.proofs.lemmas.Iterator.{YieldsList-from_slice, YieldsList-from_zip, same_from_all}
use Rattle.std.proofs.lemmas.List.{length-map}
use Rattle.wu_tables.proofs.MapLemmas.{yields_mapped}
use Rattle.wu_tables.proofs.compare.are_names.Goals as goal

pub returns-then-names-wanted : goal.returns-then-names-wanted
returns-then-names-wanted c = same_from_all c.all.new.self _ _ _ _ c.all.ensures.ran (YieldsList-from_zip (YieldsList-from_slice c.args.names.now cc) (yields_mapped (λ (w : Bor (List ℕ)). w.now) c.args.wanted.now cc)) (rw length-map (search rules)) (λ x q k. search (rules, tests)) (λ x q k. search (rules, tests))
