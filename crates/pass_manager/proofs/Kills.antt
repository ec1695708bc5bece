-- The kills of bypassed blocks have the parts and locations of marks that were there, and ask for no place.
use Rattle.std.proofs.Common.{◌≡◌, ℕ, zero, suc, ◌<◌, length, List, [], ◌∷◌, Some, None, refl, sym, ap, ◌∙◌, subst, arith}
use Rattle.std.specs.Prelude.{All, Contains, slice_index_or}
use Rattle.std.proofs.lemmas.List.Elements.{All-weaker, Contains-append_left, Contains-append_right}
use Rattle.mir_func.specs.declared.block.Block.{Block}
use Rattle.mir_func.specs.declared.item.Item.{Item}
use Rattle.mir_func.specs.declared.item.ItemKind.{ItemKind}
use Rattle.mir_func.specs.declared.item.ItemKind.TheVariants.{Code, Mark, Phi}
use Rattle.mir_func.specs.declared.location.Loc.TheVariants.{Absent}
use Rattle.mir_func.specs.declared.position.Origin.TheVariants.{Before}
use Rattle.mir_func.specs.declared.variable.MarkValue.TheVariants.{Nothing}
use Rattle.mir_func.specs.declared.variable.VarId.{VarId}
use Rattle.mir_func.specs.Sound.{items_of}
use Rattle.pass_trait.specs.Change.{Change}
use Rattle.fold_pass.specs.fold_proof.Debug.{AreKills, fold_step}
use Rattle.fold_pass.specs.fold_rule_proof.Kills.{kill_by, kills}
use Rattle.fold_pass.proofs.fold_rule_proof.Kills.{ComesFrom, each_from}
use Rattle.pass_manager.proofs.Becoming.{WasShown}

-- an item of a block is one of the function
member : (bs : List Block) (b : Block) (x : Item) → Contains bs b → Contains b.items x → Contains (items_of bs) x
member [] b x h k = absurd (omega (arith, h.1))
member (a ∷ bs) b x h k = by_place h.0 h.1 h.2 (λ m. member bs b x m k) where
  by_place : (n : ℕ) → n < length (a ∷ bs) → slice_index_or (a ∷ bs) n b ≡ b → (Contains bs b → Contains (items_of bs) x) → Contains (items_of (a ∷ bs)) x
  by_place zero lt e later = Contains-append_left a.items (items_of bs) x (subst (λ (z : Block). Contains z.items x) (sym e) k)
  by_place (suc n) lt e later = Contains-append_right a.items (items_of bs) x (later (n, omega (arith, lt), e))

module _ (c : Change) (e : ℕ) where
  kill_shown : (kind : ItemKind) (x i : Item) → x.kind ≡ kind → Contains (items_of c.old.blocks) x →
      kill_by e kind x.loc ≡ Some i → WasShown fold_step.debug c i
  kill_shown (Mark v m) x i is there k =
      let same : record { kind = Mark v Nothing; origin = Before (record { block = e; item = 0 }); loc = x.loc } ≡ i = cc in
      subst (WasShown fold_step.debug c) same (record {
        marks = λ w l (n, at, loc).
            let part : v ≡ w = cc in
            (x, there, (m, is ∙ ap (λ (z : VarId). Mark z m) part, loc));
        places = λ p (n, at). cc;
      })
  kill_shown (Phi p n) x i is there k =
      let same : record { kind = Phi None n; origin = Before (record { block = e; item = 0 }); loc = Absent } ≡ i = cc in
      subst (WasShown fold_step.debug c) same (record { marks = λ w l (m, at, loc). cc; places = λ q (m, at). cc })
  kill_shown (Code j n) x i is there k = cc

  pub kills_shown : (ks : List Item) → AreKills c.old.blocks e ks → All (WasShown fold_step.debug c) ks
  kills_shown ks (end, was, ends, reached, is) =
      let blocks : List Block = c.old.blocks in
      subst (All (WasShown fold_step.debug c)) (sym is)
      (All-weaker (ComesFrom end was blocks e) (WasShown fold_step.debug c)
      (λ i w. kill_shown w.item.kind w.item i refl (member blocks w.block w.item w.member w.stood) w.kill) (kills end was blocks e)
      (each_from end was blocks e))
