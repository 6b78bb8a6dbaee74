use Rattle.wu_cli.proofs.texts.text_of_unknown_topic.Goals as goal

pub returns-in-Some : goal.returns-in-Some
returns-in-Some g c = rw c.in-Some.is (rw c.as_str.ensures at c.worded.ensures)

pub returns-in-None : goal.returns-in-None
returns-in-None g c = rw c.in-None.is c.write_line.ensures
