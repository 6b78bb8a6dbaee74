use Rattle.std.proofs.Common.{inl, inr, refl}
use Rattle.wu_process.proofs.backup.make_folded.Goals as goal

pub returns-in-Some : goal.returns-in-Some
returns-in-Some g c = record { files = c.in-Some.refilled; source = inr c.in-Some.ensures; makes_file = c.make_file.ensures }

pub returns : goal.returns
returns g c = record { files = c.args.folded.files; source = inl refl; makes_file = c.make_file-in-None.ensures }
