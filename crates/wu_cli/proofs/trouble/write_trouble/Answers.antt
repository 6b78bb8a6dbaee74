use Rattle.wu_cli.proofs.trouble.write_trouble.Goals as goal

pub returns-in-NoFolder : goal.returns-in-NoFolder
returns-in-NoFolder g c = rw c.in-NoFolder.is c.write_line-in-NoFolder.ensures
