use Rattle.wu_schema.proofs.Words.{subst, sym, ◌∙◌, ◌≡◌}
use Rattle.wu_loader.specs.Worlds.{plain_world, AreRowsOf}
use Rattle.wu_loader.proofs.WholeLemmas.{handed}
use Rattle.wu_loader.proofs.ClassLemmas.{found_rows}
use Rattle.wu_loader.proofs.FirstLemmas.{first_of_classes, first_of_plain}
use Rattle.wu_loader.proofs.world.world_from.Goals as goal

pub returns-clause-world : goal.returns-clause-world
returns-clause-world c =
    let read = c.in_ok-project in
    let with = c.in_ok-workunits in
    let plain = plain_world read.field-0 in
    let is : plain.version ≡ c.args.version = read.ensures.version in
    let made = c.new.ensures in
    let same : c.new.result ≡ record plain { workunits = with.field-0.workunits.items; classes = with.field-0.hosts.items } = λ i. record {
      workunits = made.workunits i;
      grants = made.grants i;
      archived = made.archived i;
      imports = made.imports i;
      classes = made.classes i;
      next_number = made.next_number i;
      version = (made.version ∙ sym is) i;
    } in
    subst (AreRowsOf c.args.version c.args.rows) (sym same) (found_rows c.args.version c.args.rows plain with.field-0 read.ensures.plain with.ensures.found is)

pub returns-in_err-project-clause-none : goal.returns-in_err-project-clause-none
returns-in_err-project-clause-none c =
    handed c.from_residual.result c.in_err-project.field-0.0 _ _ (λ wrong none world readable ordered are. none world readable are.version ordered are.plain) c.from_residual.ensures.1 c.in_err-project.ensures.none

pub returns-in_err-project-clause-told : goal.returns-in_err-project-clause-told
returns-in_err-project-clause-told c =
    handed c.from_residual.result c.in_err-project.field-0.0 _ _ (λ wrong it. first_of_plain c.args.version c.args.rows wrong it) c.from_residual.ensures.1 c.in_err-project.ensures.told

pub returns-in_err-workunits-clause-told : goal.returns-in_err-workunits-clause-told
returns-in_err-workunits-clause-told c =
    handed c.from_residual-in_err-workunits.result c.in_err-workunits.field-0.0 _ _
    (λ wrong it. first_of_classes c.args.version c.args.rows wrong _ (sym c.in_ok-project.ensures.plain.workunits) c.in_ok-project.ensures.right it) c.from_residual-in_err-workunits.ensures.1 c.in_err-workunits.ensures.told
