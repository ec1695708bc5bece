-- What is lost, as it is told and as the rule says it, and its causes.
use Rattle.std.proofs.Common.{◌≡◌, ℕ, zero, suc, List, [], ◌∷◌, slice_get, Contains, Option, Some, None, Bool, true, false, cond}
use Rattle.std.proofs.Common.{refl, sym, ap, ◌∙◌, subst, inl, inr}
use Rattle.std.specs.List.{cons_option}
use Rattle.rv64_instr.specs.Instruction.{Instruction}
use Rattle.mir_func.specs.declared.block.Block.{Block}
use Rattle.mir_func.specs.declared.debug_substitution.DebugSubstitution.{DebugSubstitution}
use Rattle.mir_func.specs.declared.item.Item.{Item}
use Rattle.mir_func.specs.declared.item.ItemKind.{ItemKind}
use Rattle.mir_func.specs.declared.item.ItemKind.TheVariants.{Code, Mark, Phi}
use Rattle.mir_func.specs.declared.location.Loc.{Loc}
use Rattle.mir_func.specs.declared.position.Pos.{Pos}
use Rattle.mir_func.specs.declared.position.Origin.{Origin}
use Rattle.mir_func.specs.Function.{Function}
use Rattle.mir_func.specs.Graph.{Here, fetch_in, from_block}
use Rattle.mir_func.specs.Sound.{IsSound}
use Rattle.sem_mir.proofs.Reading.{found, found_in, front_item, item_front}
use Rattle.pass_trait.specs.declared.loss.Reason.{Reason}
use Rattle.pass_trait.specs.declared.loss.Reason.TheVariants.{Bypassed, Unreachable}
use Rattle.pass_trait.specs.declared.loss.Loss.{Loss}
use Rattle.pass_trait.specs.Rule.{number_lost, mark_lost, item, StandsAt}
use Rattle.pass_trait.specs.Causes.{HasCause, block_bypassed, block_unreachable, code_unreachable}
use Rattle.pass_trait.proofs.NopDebug.{of_flat, in_flat, in_first, at_later, at_first, none_in}
use Rattle.fold_targets.specs.Leads.{lead}
use Rattle.fold_rule_proof.specs.Kills.{IsFoldedWithKills}
use Rattle.fold_proof.specs.Lost.{is_unreachable, loss_of, lost_in, lost_for, reason_for, all_lost}
use Rattle.fold_proof.specs.Debug.{IsLostFor, IsLostAt, fold_debug}
use Rattle.fold_proof.proofs.Passing.{end, was, c}
use Rattle.fold_proof.proofs.Passing.{gone_block, unreached_gone, not_reached, passed_block, lost_reason, reason_lost}

-- ---- where an element of a list that is put together comes from

-- a loss of some item
record IsAmong (why : Reason) (xs : List Item) (loss : Loss) : Type 0 where
  index : ℕ
  found : Item
  at : slice_get xs index ≡ Some found
  is : loss_of why found.kind found.origin ≡ Some loss

later_among : (why : Reason) (x : Item) (xs : List Item) (loss : Loss) → IsAmong why xs loss → IsAmong why (x ∷ xs) loss
later_among why x xs loss h = record { index = suc h.index; found = h.found; at = h.at; is = h.is }

in_items : (why : Reason) (xs : List Item) (loss : Loss) → Contains (lost_in why xs) loss → IsAmong why xs loss
in_items why [] loss h = none_in loss h
in_items why (x ∷ xs) loss h = by_loss (loss_of why x.kind x.origin) refl (in_items why xs loss) h where
  by_loss : (o : Option Loss) → loss_of why x.kind x.origin ≡ o → (Contains (lost_in why xs) loss → IsAmong why xs loss) →
      Contains (cons_option o (lost_in why xs)) loss → IsAmong why (x ∷ xs) loss
  by_loss None e rec h = later_among why x xs loss (rec h)
  by_loss (Some l) e rec h = elim (in_first l (lost_in why xs) loss h) as (λ z. IsAmong why (x ∷ xs) loss) [
    | inl same ↦ record { index = 0; found = x; at = refl; is = e ∙ ap (λ (z : Loss). Some z) same }
    | inr k ↦ later_among why x xs loss (rec k)
  ]

more_option : (o : Option Loss) (ls : List Loss) (l : Loss) → Contains ls l → Contains (cons_option o ls) l
more_option None ls l h = h
more_option (Some k) ls l h = at_later k ls l h

of_items : (why : Reason) (xs : List Item) (n : ℕ) (x : Item) (loss : Loss) → slice_get xs n ≡ Some x → loss_of why x.kind x.origin ≡ Some loss →
    Contains (lost_in why xs) loss
of_items why [] n x loss at e = cc
of_items why (y ∷ ys) zero x loss at e =
    let w : y ≡ x = cc in
    let o : loss_of why y.kind y.origin ≡ Some loss = ap (λ (z : Item). loss_of why z.kind z.origin) w ∙ e in
    subst (λ (z : Option Loss). Contains (cons_option z (lost_in why ys)) loss) (sym o) (at_first loss (lost_in why ys))
of_items why (y ∷ ys) (suc n) x loss at e = more_option (loss_of why y.kind y.origin) (lost_in why ys) loss (of_items why ys n x loss at e)

-- it has the reason
reason_is : (why : Reason) (k : ItemKind) (o : Origin) (loss : Loss) → loss_of why k o ≡ Some loss → why ≡ loss.reason
reason_is why (Mark v m) o loss e = let same : mark_lost o why ≡ loss = cc in ap (λ (l : Loss). l.reason) same
reason_is why (Phi p k) o loss e = let same : number_lost k why ≡ loss = cc in ap (λ (l : Loss). l.reason) same
reason_is why (Code i None) o loss e = cc
reason_is why (Code i (Some k)) o loss e = by_test (is_unreachable why) e where
  by_test : (z : Bool) → cond z (Some (number_lost k why)) None ≡ Some loss → why ≡ loss.reason
  by_test true h = let same : number_lost k why ≡ loss = cc in ap (λ (l : Loss). l.reason) same
  by_test false h = cc

module _ (f g : Function) (subs : List DebugSubstitution) (sound : IsSound f) (h : IsFoldedWithKills f g) where
  abbrev all : List Loss
  all = all_lost h.folded.end h.was (lead f.blocks) f.blocks

  abbrev why_gone : ℕ → Option Reason
  why_gone n = reason_for h.folded.end h.was (lead f.blocks) n

  pub stands_in : (b : Block) → Contains f.blocks b → (n : ℕ) (x : Item) → slice_get b.items n ≡ Some x → StandsAt f (record { block = b.id; item = n }) x
  stands_in b member n x at = let w = found f.blocks sound.blocks_apart b member in
      ap (λ (bs : List Block). fetch_in bs n) w.at ∙ item_front b.items n b.source_end w.rest x at

  pub block_of : (at : Pos) (x : Item) → StandsAt f at x → (b : Block) × Contains f.blocks b × (b.id ≡ at.block) × (slice_get b.items at.item ≡ Some x)
  block_of at x stands = by_blocks (from_block f.blocks at.block) refl stands where
    by_blocks : (bs : List Block) → from_block f.blocks at.block ≡ bs → fetch_in bs at.item ≡ Here x →
        (b : Block) × Contains f.blocks b × (b.id ≡ at.block) × (slice_get b.items at.item ≡ Some x)
    by_blocks [] e k = cc
    by_blocks (b ∷ bs) e k = let w = found_in f.blocks at.block b bs e in (b, w.0, w.1, front_item b.items at.item b.source_end bs x k)

  -- what the rule says is told
  pub told : (at : Pos) (loss : Loss) → IsLostAt f at loss → Contains all loss
  told at loss l =
      let w = block_of at l.found l.stands in
      let reason : why_gone w.0.id ≡ Some loss.reason = ap why_gone w.2 ∙ lost_reason f g subs sound h at.block loss.reason l.why in
      of_flat (λ (b : Block). lost_for (why_gone b.id) b.items) f.blocks w.0 loss w.1
      (subst (λ (o : Option Reason). Contains (lost_for o w.0.items) loss) (sym reason) (of_items loss.reason w.0.items at.item l.found loss w.3 l.is))

  -- what is told the rule says
  pub said : (loss : Loss) → Contains all loss → (at : Pos) × IsLostAt f at loss
  said loss member =
      let w = in_flat (λ (b : Block). lost_for (why_gone b.id) b.items) f.blocks loss member in
      by_reason w.0 w.1 (why_gone w.0.id) refl w.2 where
        by_reason : (b : Block) → Contains f.blocks b → (o : Option Reason) → why_gone b.id ≡ o → Contains (lost_for o b.items) loss →
            (at : Pos) × IsLostAt f at loss
        by_reason b inside None e k = none_in loss k
        by_reason b inside (Some why) e k =
            let a = in_items why b.items loss k in
            let same = reason_is why a.found.kind a.found.origin loss a.is in (
              record { block = b.id; item = a.index },
              record {
                found = a.found;
                stands = stands_in b inside a.index a.found a.at;
                why = subst (IsLostFor f.blocks b.id) same (reason_lost f g subs sound h b.id why e);
                is = subst (λ (r : Reason). loss_of r a.found.kind a.found.origin ≡ Some loss) same a.is;
              },
            )

  -- ---- causes

  abbrev Cause : Pos → Loss → Type 0
  Cause at loss = HasCause fold_debug (c f g subs sound h) at loss

  abbrev Gone : ℕ → Type 0
  Gone n = Rattle.pass_trait.specs.Causes.IsGoneBlock (c f g subs sound h) n

  mark_cause : (at : Pos) (why : Reason) (v : Rattle.mir_func.specs.declared.variable.VarId.VarId)
      (m : Rattle.mir_func.specs.declared.variable.MarkValue.MarkValue)
      (o : Origin) (l : Loc) → StandsAt f at (item (Mark v m) o l) → IsLostFor f.blocks at.block why → Cause at (mark_lost o why)
  mark_cause at Bypassed v m o l stands p = let w = passed_block f g subs sound h at.block p in block_bypassed stands refl w.1 w.2
  mark_cause at Unreachable v m o l stands out =
      block_unreachable stands refl (not_reached f g subs sound h at.block out) (gone_block f g subs sound h at.block
      (unreached_gone f g subs sound h at.block out))
  mark_cause at _ v m o l stands p = absurd p

  phi_cause : (at : Pos) (why : Reason) (p : Option Rattle.rv64_instr.specs.declared.place.Place.Place) (k : ℕ) (o : Origin) (l : Loc) →
      StandsAt f at (item (Phi p k) o l) → IsLostFor f.blocks at.block why → Cause at (number_lost k why)
  phi_cause at Bypassed p k o l stands q = let w = passed_block f g subs sound h at.block q in block_bypassed stands refl w.1 w.2
  phi_cause at Unreachable p k o l stands out =
      block_unreachable stands refl (not_reached f g subs sound h at.block out) (gone_block f g subs sound h at.block
      (unreached_gone f g subs sound h at.block out))
  phi_cause at _ p k o l stands q = absurd q

  code_cause : (at : Pos) (why : Reason) (i : Instruction) (k : ℕ) (o : Origin) (l : Loc) → StandsAt f at (item (Code i (Some k)) o l) →
      IsLostFor f.blocks at.block why → is_unreachable why ≡ true → Cause at (number_lost k why)
  code_cause at Unreachable i k o l stands out e =
      code_unreachable stands (not_reached f g subs sound h at.block out) (gone_block f g subs sound h at.block (unreached_gone f g subs sound h at.block out))
  code_cause at Bypassed i k o l stands p e = cc
  code_cause at _ i k o l stands p e = absurd p

  kind_cause : (at : Pos) (why : Reason) (k : ItemKind) (o : Origin) (l : Loc) (loss : Loss) → StandsAt f at (item k o l) → IsLostFor f.blocks at.block why →
      loss_of why k o ≡ Some loss → Cause at loss
  kind_cause at why (Mark v m) o l loss stands p e = let same : mark_lost o why ≡ loss = cc in subst (Cause at) same (mark_cause at why v m o l stands p)
  kind_cause at why (Phi q k) o l loss stands p e = let same : number_lost k why ≡ loss = cc in subst (Cause at) same (phi_cause at why q k o l stands p)
  kind_cause at why (Code i None) o l loss stands p e = cc
  kind_cause at why (Code i (Some k)) o l loss stands p e = by_test (is_unreachable why) refl e where
    by_test : (z : Bool) → is_unreachable why ≡ z → cond z (Some (number_lost k why)) None ≡ Some loss → Cause at loss
    by_test true t q = let same : number_lost k why ≡ loss = cc in subst (Cause at) same (code_cause at why i k o l stands p t)
    by_test false t q = cc

  pub caused : (at : Pos) (loss : Loss) → IsLostAt f at loss → Cause at loss
  caused at loss l = kind_cause at loss.reason l.found.kind l.found.origin l.found.loc loss l.stands l.why l.is
