use Rattle.std.proofs.Common.{rules}
use Rattle.sqlite.specs.Held.{state}
use Rattle.sqlite.specs.State.{HasCleanDisk}
use Rattle.wu_passes.proofs.project.Project.imports_named.Goals as goal

pub returns-after-eq : goal.returns-after-eq
returns-after-eq g c = record {
  early = search rules;
  session = search rules;
  asks = search rules;
  opens = search rules;
  fault = search rules;
  found = search rules;
  unrefused = λ going clean world stood can unlimited.
      let was : HasCleanDisk (state g.S.Store c.import_lines_named.new.conn) = search rules in
      c.in-Err.ensures.reads.unrefused was world stood can unlimited;
}
