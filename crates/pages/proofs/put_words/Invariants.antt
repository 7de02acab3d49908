use Rattle.std.proofs.Common.{◌≡◌, take}
use Rattle.pages.specs.Bytes.{words, put}
use Rattle.pages.proofs.put_words.Given as goal

abbrev pub invariant-loop-i : goal.invariant-loop-i
invariant-loop-i l = l.page ≡ put l.initial.page l.at (words (take l.i l.numbers))
