use Rattle.pages.proofs.Pad.{put_pad}
use Rattle.units.specs.Calls.{terms_of}
use Rattle.text.specs.Text.{line_of}
use Rattle.text.specs.Calls.{text_max}
use Rattle.text.proofs.Lines.{writable_by, line_short}
use Rattle.text.proofs.Line.text.Goals as goal

pub returns : goal.returns
returns c =
    let write-line = c.write-size in
    rw
    (write-line.ensures.0, write-line.ensures.1, put_pad text_max (line_of c.args.self.names.page.now (terms_of c.args.self.unit)) (line_short c.args.self.names.page.now c.args.self.unit c.args.self.names.formed (writable_by c.args.self.writable)))
