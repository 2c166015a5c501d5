use Rattle.making.proofs.Written.{wrote_whole}
use Rattle.making.proofs.writing.write_section.Goals as goal

pub returns : goal.returns
returns c = wrote_whole c.requires c.write_text.ensures
