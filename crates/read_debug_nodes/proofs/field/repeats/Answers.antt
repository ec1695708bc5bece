use Rattle.std.proofs.Common.{◌≡◌, ℕ, ◌+◌, ◌-◌, ◌<◌, true, false, List, length, get_or, take, drop, sym, ap, subst, ◌∙◌, arith}
use Rattle.std.proofs.lemmas.List.{take_rest}
use Rattle.read_metadata.specs.Token.{text_of}
use Rattle.read_debug_nodes.specs.Field.{has_key, repeats}
use Rattle.read_debug_nodes.specs.steps.Keys.{AreKeys}
use Rattle.read_debug_nodes.proofs.Keys.{twice, once, more}
use Rattle.read_debug_nodes.proofs.field.repeats.Goals as goal

pub returns-then-has_key : goal.returns-then-has_key
returns-then-has_key c =
    let line = c.args.line.now in
    let fs = c.args.fields.now in
    let i = c.loop-left.left - 1 in
    let d = c.index-fields-left.result in
    let lt : i < length fs = omega (arith, c.loop-left.invariant.within, c.loop-left-test.true) in
    let key : c.text_of-key.result.now ≡ text_of line (get_or fs i d).key = c.text_of-key.ensures in
    let is : has_key line (text_of line (get_or fs i d).key) (drop (i + 1) fs) ≡ true =
    ap (λ (k : List ℕ). has_key line k (drop (i + 1) fs)) (sym key) ∙ ap (has_key line c.text_of-key.result.now) (sym (take_rest fs (i + 1)))
    ∙ sym c.if-has_key.ensures in
    sym (twice line fs i d lt is)

pub loop-left-preserved : goal.loop-left-preserved
loop-left-preserved c =
    let line = c.args.line.now in
    let fs = c.args.fields.now in
    let i = c.loop-left.left - 1 in
    let d = c.index-fields-left.result in
    let lt : i < length fs = omega (arith, c.loop-left.invariant.within, c.loop-left-test.true) in
    let up : i + 1 ≡ c.loop-left.left = omega (arith, c.loop-left-test.true) in
    let key : c.text_of-key.result.now ≡ text_of line (get_or fs i d).key = c.text_of-key.ensures in
    let is : has_key line (text_of line (get_or fs i d).key) (drop (i + 1) fs) ≡ false =
    ap (λ (k : List ℕ). has_key line k (drop (i + 1) fs)) (sym key) ∙ ap (has_key line c.text_of-key.result.now) (sym (take_rest fs (i + 1)))
    ∙ sym c.if-has_key.ensures in
    let are : AreKeys line c.loop-left.keys (drop (i + 1) fs) =
    subst (λ (n : ℕ). AreKeys line c.loop-left.keys (drop n fs)) (sym up) c.loop-left.invariant.keys in
    let rest : repeats line (drop (i + 1) fs) ≡ false = ap (λ (n : ℕ). repeats line (drop n fs)) up ∙ c.loop-left.invariant.once in
    record {
      within = omega (arith, c.loop-left.invariant.within);
      keys = more line fs i d lt c.loop-left.keys c.insert.new.self c.text_of-key.result are c.in_ok-insert.ensures.updates key;
      once = once line fs i d lt is rest;
    }
