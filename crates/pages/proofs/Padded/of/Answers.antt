use Rattle.pages.proofs.Pad.{put_pad}
use Rattle.pages.proofs.Padded.of.Goals as goal

pub returns : goal.returns
returns g c = rw (c.put_bytes.ensures, put_pad g.row.N c.args.bytes.now c.requires)
