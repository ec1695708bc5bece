use Rattle.std.proofs.Common.{◌≡◌, ℕ, ◌-◌, ◌/◌, ◌<◌, ◌^◌, List, length, get_or, Some, refl, sym, ap, subst, ◌∙◌, arith}
use Rattle.emit_code.specs.Laid.{LaidCode, IsCode}
use Rattle.sem_machine.specs.Image.{word_at}
use Rattle.sim_machine.proofs.Sites.{word_place, word_shown}
use Rattle.sim_machine.proofs.site.word_of.Goals as goal

pub overflow_sub-index : goal.overflow_sub-index
overflow_sub-index c =
    let p = word_place c.args.code.now c.args.entry.now c.args.entry.now.address (subst IsCode c.code.view_is c.code.invariant) c.requires in
    let b = ap (λ (x : LaidCode). x.base) c.code.view_is in omega (arith, p.at, b)

pub word_in-requires : goal.word_in-requires
word_in-requires c =
    let p = word_place c.args.code.now c.args.entry.now c.args.entry.now.address (subst IsCode c.code.view_is c.code.invariant) c.requires in
    let b = ap (λ (x : LaidCode). x.base) c.code.view_is in
    let w = ap (λ (x : LaidCode). length x.words) c.code.view_is in
    let l = ap length c.as_slice.ensures in
    omega (arith, p.at, b, w, l, p.within)

pub returns-clause-word : goal.returns-clause-word
returns-clause-word c = λ image shows.
    let code = c.args.code.now in
    let a = c.args.entry.now.address in
    let p = word_place code c.args.entry.now a (subst IsCode c.code.view_is c.code.invariant) c.requires in
    let b = ap (λ (x : LaidCode). x.base) c.code.view_is in
    let k : (a - c.code.inside.base) / 4 ≡ p.index = omega (arith, p.at, b) in
    let words = c.as_slice.ensures ∙ ap (λ (x : LaidCode). x.words) c.code.view_is in
    let here : c.word_in.result ≡ get_or code.words p.index 0 =
    c.word_in.ensures.value ∙ (ap (λ (xs : List ℕ). get_or xs ((a - c.code.inside.base) / 4) 0) words ∙ ap (λ (n : ℕ). get_or code.words n 0) k) in
    let small : get_or code.words p.index 0 < 2 ^ 32 = omega (arith, here, c.word_in.ensures.small) in
    let shown = word_shown code image p.index (get_or code.words p.index 0) shows p.within refl small in
    ap (word_at image.text) p.at ∙ (shown ∙ ap (λ (n : ℕ). Some n) (sym here))

pub returns-clause-low : goal.returns-clause-low
returns-clause-low c =
    (word_place c.args.code.now c.args.entry.now c.args.entry.now.address (subst IsCode c.code.view_is c.code.invariant) c.requires).low
