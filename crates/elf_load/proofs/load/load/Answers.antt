use Rattle.std.specs.Prelude.{All}
use Rattle.std.proofs.Common.{◌≡◌, ℕ, List, length, get_or, arith, ap, sym, ◌∙◌, subst}
use Rattle.std.proofs.lemmas.List.{with_items_is}
use Rattle.elf_load.specs.Load.{addresses, IsCallSite, IsReached}
use Rattle.elf_load.specs.steps.CallWords.{relocated}
use Rattle.elf_load.proofs.Addresses.{length-addresses}
use Rattle.elf_load.proofs.Relocated.{loaded_long, loaded}
use Rattle.elf_load.proofs.load.load.Goals as goal

pub relocate-requires-clause-sites : goal.relocate-requires-clause-sites
relocate-requires-clause-sites c = λ k d lt.
    let text : c.as_mut_slice.result.now ≡ c.args.text.now =
    cc (c.as_mut_slice.ensures.value, c.into_vec-loaded.ensures, c.in_ok-from_slice.ensures) in
    let known : c.as_slice.result.now ≡ addresses c.args.base c.args.undefined.now c.args.symbols.now =
    cc (c.as_slice.ensures, c.in_ok-addresses.ensures) in
    subst (λ (n : ℕ). IsCallSite n (length c.as_slice.result.now) (get_or c.args.relocations.now k d)) (ap length (sym text))
    (subst (λ (n : ℕ). IsCallSite (length c.args.text.now) n (get_or c.args.relocations.now k d))
    (sym (ap length known ∙ length-addresses c.args.base c.args.undefined.now c.args.symbols.now)) (c.requires.sites k d lt))

pub returns-clause-loaded : goal.returns-clause-loaded
returns-clause-loaded c =
    let targets : List ℕ = addresses c.args.base c.args.undefined.now c.args.symbols.now in
    let text : c.as_mut_slice.result.now ≡ c.args.text.now =
    cc (c.as_mut_slice.ensures.value, c.into_vec-loaded.ensures, c.in_ok-from_slice.ensures) in
    let known : c.as_slice.result.now ≡ targets = cc (c.as_slice.ensures, c.in_ok-addresses.ensures) in
    let made : c.relocate.new.text ≡ relocated c.args.base targets c.args.relocations.now c.args.text.now =
    c.in-None.ensures.0
    ∙ ap (λ (ys : List ℕ). relocated c.args.base c.as_slice.result.now c.args.relocations.now ys) text
    ∙ ap (λ (xs : List ℕ). relocated c.args.base xs c.args.relocations.now c.args.text.now) known in
    let long : length c.relocate.new.text ≡ length c.args.text.now =
    ap length made ∙ loaded_long c.args.text.now c.args.symbols.now c.args.relocations.now c.args.base c.args.undefined.now c.requires in
    let written : c.from.result ≡ c.relocate.new.text =
    c.from.ensures ∙ with_items_is c.into_vec-loaded.result c.relocate.new.text (omega (arith, long, ap length text)) in
    loaded c.args.text.now c.args.symbols.now c.args.relocations.now c.args.base c.args.undefined.now _ c.requires
    (λ k. omega (arith, c.type_inv.undefined k)) (written ∙ made)
    (subst (λ (xs : List ℕ). All (IsReached c.args.base xs) c.args.relocations.now) known c.in-None.ensures.1)
