-- Kills are debug items.
use Rattle.std.proofs.Common.{◌≡◌, ℕ, List, [], ◌∷◌, ◌++◌, map, All, Option, None, Bool, refl, sym, ap, ◌∙◌}
use Rattle.std.specs.List.{cons_option}
use Rattle.std.proofs.lemmas.List.Elements.{All-head, All-tail}
use Rattle.mir_func.specs.declared.block.Block.{Block}
use Rattle.mir_func.specs.declared.item.Item.{Item}
use Rattle.mir_func.specs.declared.item.ItemKind.{ItemKind}
use Rattle.mir_func.specs.declared.item.ItemKind.TheVariants.{Code, Mark, Phi}
use Rattle.mir_func.specs.declared.location.Loc.{Loc}
use Rattle.mir_func.specs.declared.position.Origin.{Origin}
use Rattle.mir_func.specs.Function.{Function}
use Rattle.mir_func.specs.Strip.{bare, stripped_items, stripped_blocks, stripped}
use Rattle.fold_rule.specs.Rule.{IsFolded}
use Rattle.fold_rule_proof.proofs.Stripped.{strips}
use Rattle.fold_rule_proof.specs.Kills.{with_kills, kills}
use Rattle.fold_proof.specs.Follows.{KillsStrip}
use Rattle.fold_rule_proof.proofs.Kills.{IsKillKind, IsKill, each_kill}

bare_kill : (k : ItemKind) (o : Origin) (l : Loc) → IsKillKind k → bare k o l ≡ None
bare_kill (Mark v m) o l h = refl
bare_kill (Phi p n) o l h = refl
bare_kill (Code i n) o l h = absurd h

none_left : (e : ℕ) (ks xs : List Item) → All (IsKill e) ks → stripped_items (ks ++ xs) ≡ stripped_items xs
none_left e [] xs h = refl
none_left e (k ∷ ks) xs h =
    let one = bare_kill k.kind k.origin k.loc (All-head (IsKill e) k ks h).kind in
    ap (λ (o : Option Item). cons_option o (stripped_items (ks ++ xs))) one ∙ none_left e ks xs (All-tail (IsKill e) k ks h)

module _ (end : ℕ → ℕ) (was : ℕ → Bool) (old : List Block) where
  killed_stripped : (bs : List Block) → stripped_blocks (map (with_kills end was old) bs) ≡ stripped_blocks bs
  killed_stripped [] = refl
  killed_stripped (b ∷ bs) =
      let e = none_left b.id (kills end was old b.id) b.items (each_kill end was old b.id) in
      let es = killed_stripped bs in
      λ i. record { id = b.id; items = e i; source_end = b.source_end } ∷ es i

pub kills_strip : KillsStrip
kills_strip f g sound h =
    let bare_blocks : IsFolded (stripped f) (stripped (record f { blocks = h.blocks })) = strips f (record f { blocks = h.blocks }) sound (h.folded, refl) in
    let same : stripped g ≡ stripped (record f { blocks = h.blocks }) =
    ap stripped h.killed ∙ (λ i. record (stripped f) { blocks = killed_stripped h.folded.end h.was f.blocks h.blocks i }) in
    Rattle.std.proofs.Common.subst (λ (z : Function). IsFolded (stripped f) z) (sym same) bare_blocks
