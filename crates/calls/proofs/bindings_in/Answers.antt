use mathlib.Core.Path.{◌≡◌, refl, ap, ◌∙◌}
use Prim.Native.Nat.{ℕ}
use lib.ListN.{length, take, drop, replicate}
use borrow.Author.Rules.{rules}
use Rattle.pages.specs.Bytes.{words_at}
use Rattle.pages.proofs.Words.{read_length}
use Rattle.bindings.specs.Bindings.{bindings_max}
use Rattle.calls.specs.Types.{types_from, binding_bytes, bindings_in}
use Rattle.calls.proofs.Bindings.{names_length}
use Rattle.calls.proofs.bindings_in.Goals as goal

pub returns : goal.returns
unfolding bindings_in
returns c =
    let p = c.args.bytes in
    let n : length p ≡ binding_bytes = search rules in
    let names : length (replicate {A = ℕ} bindings_max 0) ≡ bindings_max = refl in
    let types : length (replicate {A = ℕ} bindings_max 0) ≡ bindings_max = refl in
    let e = c.read_bytes.ensures ∙ ap (λ (k : ℕ). take k (drop 1 p)) names in
    let f = c.read_words.ensures ∙ ap (λ (k : ℕ). words_at p types_from k) types in (
      rw (c.from.ensures, e, f) refl,
      search rules,
      ap length e ∙ names_length p n,
      ap length f ∙ read_length p types_from bindings_max,
    )
