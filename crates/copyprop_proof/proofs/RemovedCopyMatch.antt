-- A copy that changes nothing goes: how the two runs are related.
use Rattle.std.proofs.Common.{◌≡◌, ℕ, suc, List, [], Option, Some, None, true, false, refl, sym, ap, ◌∙◌, subst}
use Rattle.rv64_instr.specs.declared.place.Place.{Place}
use Rattle.rv64_instr.specs.Instruction.{Instruction}
use Rattle.rv64_instr.specs.Row.{Row, Moves, Branches, Unfit, row_of}
use Rattle.rv64_instr.specs.LocationEffects.{is_call, is_pure}
use Rattle.mir_func.specs.declared.debug_substitution.OperandPair.{OperandPair}
use Rattle.mir_func.specs.declared.position.Pos.{Pos}
use Rattle.mir_func.specs.declared.position.Origin.{Origin}
use Rattle.mir_func.specs.declared.position.Origin.TheVariants.{Kept, Before}
use Rattle.mir_func.specs.declared.location.Loc.{Loc}
use Rattle.mir_func.specs.declared.item.Item.{Item}
use Rattle.mir_func.specs.declared.item.ItemKind.{ItemKind}
use Rattle.mir_func.specs.declared.item.ItemKind.TheVariants.{Code, Mark, Phi}
use Rattle.mir_func.specs.Graph.{Program, below, KindEdge, RowEdge}
use Rattle.sem_mir.specs.State.{Core}
use Rattle.sem_mir.specs.Step.{Outcome, Falls, Goes, Gives, Traps, Asks, Breaks, act, numbered, do_item}
use Rattle.sem_mir.specs.Effects.{held_in, OnCore, EndAlike}
use Rattle.sem_mir.specs.Align.{is_code, is_jump, is_jump_row}
use Rattle.sem_mir.specs.Follow.{KindFits, MayAdd, OnRow, GoesTo, SameEnd, KindsEndAlike}
use Rattle.sem_mir.proofs.Outcomes.{alike_weaker}
use Rattle.sem_simulation.specs.InPlace.{FallsOrTraps}
use Rattle.sem_simulation.proofs.Outcomes.{alike_of}
use Rattle.pass_trait.specs.Rule.{item}
use Rattle.sem_agreement.specs.Agreement.{Alike, KillDefs}
use Rattle.sem_agreement.proofs.Outcomes.{alike_both, falls_both, falls_weaker, on_with, held_numbered, leaves_pair}
use Rattle.sem_agreement.proofs.Held.{held_itself}
use Rattle.sem_agreement.proofs.Told.{tells_itself}
use Rattle.sem_agreement.proofs.Items.{code_first}
use Rattle.sem_agreement.proofs.Views.{falls_or_traps, pure_form, shows_alike}
use Rattle.pass_salvage.proofs.Edits.{Edits}
use Rattle.pass_salvage.proofs.EditRuns.{Keeps}
use Rattle.pass_salvage.proofs.EditFollows.{Allows}
use Rattle.pass_salvage.proofs.NumberOff.{Everywhere}
use Rattle.pass_edits.proofs.Numbers.{IsUnlike}
use Rattle.copyprop_block.specs.declared.roots.Root.{Root}
use Rattle.copyprop_block.specs.Roots.{root_of, roots_after}
use Rattle.copyprop_block.specs.Copied.{roots_with}
use Rattle.copyprop_proof.proofs.Known.{Holds, holds_none, act_holds, known_leaves, holds_same}
use Rattle.copyprop_proof.proofs.ReplacedUsesMatch.{NoFree, item_same}

-- it moves no register into itself
abbrev pub IsNoSelfCopy : ItemKind → Type 0
IsNoSelfCopy (Code i n) = (rd s : ℕ) → row_of i ≡ Moves (suc rd) s → s ≡ suc rd → ⊥
IsNoSelfCopy (Mark v m) = Unit {0}
IsNoSelfCopy (Phi p n) = Unit {0}

-- where copies hold what their roots hold, a copy of the root of its target is taken out, with the number k if with any
pub data TakenPair (k : ℕ) : List Root → List Root → Item → Item → Type 0 where
  teaches : {e : List Root} {x : Item} → IsUnlike k x.kind → IsNoSelfCopy x.kind → TakenPair k e (roots_with x.kind e) x x
  passes : {x : Item} → IsUnlike k x.kind → TakenPair k [] [] x x

pub data TakenOut (k : ℕ) : List Root → List Root → Item → Type 0 where
  takes : {e : List Root} {i : Instruction} {n : Option ℕ} {p : Origin} {l : Loc} (rd s : ℕ) → row_of i ≡ Moves (suc rd) s → root_of e (suc rd) ≡ s →
      ((m : ℕ) → n ≡ Some m → m ≡ k) → TakenOut k e [] (item (Code i n) p l)

abbrev pub taken_edits : ℕ → Edits
taken_edits k = record {
  Stage = List Root;
  entry = λ n. [];
  IsOver = λ e. Unit {0};
  Pair = TakenPair k;
  Out = TakenOut k;
  Put = λ a b y. ⊥;
}

-- ---- the facts of lists

no_end_move : (r : Row) (rd s : ℕ) → SameEnd r (Moves rd s) → ⊥
no_end_move (Branches op a b t) rd s h = h
no_end_move _ rd s h = h

out_falls : (k : ℕ) (a b : List Root) (x : Item) → TakenOut k a b x → (p q : Pos) → KindEdge (λ n. n) x.kind p q → q ≡ below p
out_falls k a b x (takes rd s row root number) p q e = subst (λ (r : Row). RowEdge (λ n. n) r p q) row e

out_no_goes : (k : ℕ) (a b : List Root) (x : Item) → TakenOut k a b x → (n : ℕ) → OnRow (GoesTo n) x.kind → ⊥
out_no_goes k a b x (takes rd s row root number) n h = subst (GoesTo n) row h

out_no_end : (k : ℕ) (a b : List Root) (x : Item) → TakenOut k a b x → (i : ItemKind) → KindsEndAlike i x.kind → ⊥
out_no_end k a b x (takes rd s row root number) (Code c m) h = no_end_move (row_of c) (suc rd) s (subst (SameEnd (row_of c)) row h)
out_no_end k a b x (takes rd s row root number) (Mark v m) h = h
out_no_end k a b x (takes rd s row root number) (Phi p m) h = h

out_kept : (k : ℕ) (a b : List Root) (x : Item) → TakenOut k a b x → (src : Program) (source_end : ℕ) → KindFits src x.kind source_end x.origin →
    (p : Pos) × (x.origin ≡ Kept p)
out_kept k a b x (takes {p = Kept q} rd s row root number) src source_end h = (q, refl)
out_kept k a b x (takes {p = Before q} rd s row root number) src source_end h = absurd (subst (λ (r : Row). MayAdd r q.item source_end) row h)

pub taken_allows : (k : ℕ) → Allows (taken_edits k)
taken_allows k = record {
  empty = λ n. tt;
  falls = out_falls k;
  no_goes = out_no_goes k;
  no_end = out_no_end k;
  kept = out_kept k;
  marks = λ a b y h. absurd h;
}

out_code : (k : ℕ) (a b : List Root) (x : Item) → TakenOut k a b x → is_code x.kind ≡ true
out_code k a b x (takes rd s row root number) = refl

out_stays : (k : ℕ) (a b : List Root) (x : Item) → TakenOut k a b x → is_jump x.kind ≡ false
out_stays k a b x (takes rd s row root number) = ap is_jump_row row

-- ---- the runs

none_held : (x : Outcome) → OnCore (Holds []) x
none_held (Falls c) = holds_none c
none_held (Goes n c) = holds_none c
none_held (Gives v) = tt
none_held Traps = tt
none_held Asks = tt
none_held Breaks = tt

module _ (f g : Program) (blind_f : f.sees_pointer ≡ false) (blind_g : g.sees_pointer ≡ false) (resolves : (q : OperandPair) → g.resolve q ≡ f.resolve q)
    (k : ℕ) where
  pub record TakenCores (e : List Root) (c d : Core) : Type 0 where
    pub alike : Alike Everywhere NoFree c d
    pub holds : Holds e c
    pub none : (p : ℕ) → d.pairs k p ≡ None

  holds_item : (e : List Root) (kind : ItemKind) (c : Core) → IsNoSelfCopy kind → Holds e c → OnCore (Holds (roots_with kind e)) (do_item f kind c)
  holds_item e (Code i n) c other h =
      on_with (Holds (roots_after (row_of i) e)) (Holds (roots_after (row_of i) e)) (numbered f.sees_pointer (is_call (row_of i)) n i.operands)
      (λ z w. holds_same (roots_after (row_of i) e) z (numbered f.sees_pointer (is_call (row_of i)) n i.operands z)
      (λ x. held_numbered x f.sees_pointer (is_call (row_of i)) n i.operands z) w)
      (act (row_of i) c) (act_holds e i c h (row_of i) refl other)
  holds_item e (Mark v m) c other h = h
  holds_item e (Phi p m) c other h = h

  together : (b : List Root) (kind : ItemKind) (c d : Core) → IsUnlike k kind → Alike Everywhere NoFree c d → ((p : ℕ) → d.pairs k p ≡ None) →
      OnCore (Holds b) (do_item f kind c) → EndAlike (TakenCores b) (do_item f kind c) (do_item g kind d)
  together b kind c d unlike alike none holds =
      alike_weaker (λ c' d'. Alike Everywhere NoFree c' d' × Holds b c' × (d'.pairs k ≡ d.pairs k)) (TakenCores b)
      (λ c' d' r. record { alike = r.0; holds = r.1; none = λ p. ap (λ (z : ℕ → Option ℕ). z p) r.2 ∙ none p }) (do_item f kind c) (do_item g kind d)
      (alike_both (Alike Everywhere NoFree) (Holds b) (λ e. e.pairs k ≡ d.pairs k) (do_item f kind c) (do_item g kind d)
      (item_same f g blind_f blind_g resolves kind c d alike) holds (leaves_pair g kind k d unlike))

  both : (a b : List Root) (x y : Item) → TakenPair k a b x y → (c d : Core) → TakenCores a c d → EndAlike (TakenCores b) (do_item f x.kind c)
      (do_item g y.kind d)
  both a b x y (teaches {e} unlike other) c d h = together (roots_with x.kind e) x.kind c d unlike h.alike h.none (holds_item e x.kind c other h.holds)
  both a b x y (passes unlike) c d h = together [] x.kind c d unlike h.alike h.none (none_held (do_item f x.kind c))

  -- the copy sets what is there
  falls : (a b : List Root) (x : Item) → TakenOut k a b x → (c d : Core) → TakenCores a c d → FallsOrTraps (Unit {0}) (λ z. TakenCores b z d)
      (do_item f x.kind c)
  falls a b x (takes {e} {i} {n} rd s row root number) c d h =
      falls_or_traps (Unit {0}) (λ z. TakenCores [] z d) (do_item f (Code i n) c) tt (pure_form f (Code i n) c (ap is_pure row, unfit))
      (falls_weaker (λ z. Alike (KillDefs Everywhere i) NoFree z d × ((y : Place) → held_in y z ≡ held_in y c)) (λ z. TakenCores [] z d) by_core
      (do_item f (Code i n) c)
      (falls_both (λ z. Alike (KillDefs Everywhere i) NoFree z d) (λ z. (y : Place) → held_in y z ≡ held_in y c) (do_item f (Code i n) c)
      (code_first Everywhere NoFree f i n c d (ap is_pure row) h.alike (λ m is free o. ap (λ (z : ℕ). d.pairs z o) (number m is) ∙ h.none o)) same)) where
        unfit : row_of i ≡ Unfit → ⊥
        unfit u = let bad : Moves (suc rd) s ≡ Unfit = sym row ∙ u in cc

        same : OnCore (λ z. (y : Place) → held_in y z ≡ held_in y c) (do_item f (Code i n) c)
        same =
            on_with (λ z. (y : Place) → held_in y z ≡ held_in y c) (λ z. (y : Place) → held_in y z ≡ held_in y c)
            (numbered f.sees_pointer (is_call (row_of i)) n i.operands) (λ z w y. held_numbered y f.sees_pointer (is_call (row_of i)) n i.operands z ∙ w y)
            (act (row_of i) c) (known_leaves e i c h.holds rd s row root)

        by_core : (z : Core) → Alike (KillDefs Everywhere i) NoFree z d × ((y : Place) → held_in y z ≡ held_in y c) → TakenCores [] z d
        by_core z r = record {
          alike = record { held = record { world = r.0.held.world; places = λ y u. r.1 y ∙ h.alike.held.places y tt }; told = r.0.told };
          holds = holds_none z;
          none = h.none;
        }

  to_start : (e : List Root) (c d : Core) → TakenCores e c d → TakenCores [] c d
  to_start e c d h = record { alike = h.alike; holds = holds_none c; none = h.none }

  pub taken_keeps : Keeps (taken_edits k) TakenCores f g
  taken_keeps = record {
    code = λ a b x y how code code' c d h. alike_of (TakenCores b) (λ t. TakenCores []) (TakenCores b) (do_item f x.kind c) (do_item g y.kind d) (λ z z' r. r)
        (λ t z z' go r. to_start b z z' r) (both a b x y how c d h);
    debug = λ a b x y how none none' c d h. both a b x y how c d h;
    out_code = out_code k;
    out_stays = out_stays k;
    outs = falls;
    puts = λ a b y h. absurd h;
    ends = λ a n c d done h. to_start a c d h;
    shows = λ a c d h. shows_alike Everywhere NoFree c d h.alike;
  }

  pub taken_itself : (c : Core) → ((m p : ℕ) → c.pairs m p ≡ None) → TakenCores [] c c
  taken_itself c none = record {
    alike = record { held = held_itself Everywhere c; told = tells_itself NoFree c };
    holds = holds_none c;
    none = λ p. none k p;
  }
