-- Explicit uses become roots: how the two runs are related.
use Rattle.std.proofs.Common.{◌≡◌, inr, ℕ, suc, List, [], Option, Some, None, true, false, is_some, refl, sym, ap, ◌∙◌, subst}
use Rattle.rv64_instr.specs.declared.place.Place.{Place}
use Rattle.rv64_instr.specs.Instruction.{Instruction}
use Rattle.rv64_instr.specs.Row.{Row, Moves, row_of}
use Rattle.rv64_instr.specs.LocationEffects.{is_call}
use Rattle.mir_func.specs.declared.debug_substitution.OperandPair.{OperandPair}
use Rattle.mir_func.specs.declared.item.Item.{Item}
use Rattle.mir_func.specs.declared.item.ItemKind.{ItemKind}
use Rattle.mir_func.specs.declared.item.ItemKind.TheVariants.{Code, Mark, Phi}
use Rattle.mir_func.specs.declared.variable.MarkValue.TheVariants.{Nothing, Constant, At, Pair}
use Rattle.mir_func.specs.Graph.{Program}
use Rattle.sem_mir.specs.State.{Core}
use Rattle.sem_mir.specs.Step.{Outcome, Falls, Goes, Gives, Traps, Asks, Breaks, act, numbered, pair_value, do_item}
use Rattle.sem_mir.specs.Effects.{held_in, OnCore, EndAlike}
use Rattle.sem_mir.proofs.Outcomes.{alike_weaker, on_weaker}
use Rattle.sem_simulation.proofs.Outcomes.{alike_of}
use Rattle.sem_agreement.specs.Agreement.{DebugLessDef, Alike, GenDefs, HeldAfter, NumbersHeld, Depends}
use Rattle.sem_agreement.proofs.Outcomes.{alike_both, on_with, held_numbered}
use Rattle.sem_agreement.proofs.Held.{held_fewer, held_itself}
use Rattle.sem_agreement.proofs.Told.{tells_itself}
use Rattle.sem_agreement.proofs.Items.{item_both}
use Rattle.sem_agreement.proofs.Views.{shows_alike}
use Rattle.pass_salvage.proofs.Edits.{Edits}
use Rattle.pass_salvage.proofs.EditRuns.{Keeps}
use Rattle.pass_salvage.proofs.NumberOff.{Everywhere}
use Rattle.copyprop_block.specs.declared.roots.Root.{Root}
use Rattle.copyprop_block.specs.Roots.{root_of, renamed, known_source, roots_after}
use Rattle.copyprop_block.specs.Copied.{renamed_kind, renamed_item, roots_with}
use Rattle.copyprop_rule.specs.Rule.{goes}
use Rattle.copyprop_rule.proofs.Rows.{rooted, row_renamed}
use Rattle.copyprop_rule.proofs.Sizes.{known_moves}
use Rattle.copyprop_proof.proofs.Known.{IsClean, keeps_zero, not_itself, Holds, holds_none, holds_root, act_holds, known_leaves, holds_same}
use Rattle.copyprop_proof.proofs.Acts.{do_root}

-- no number is free
abbrev pub NoFree : ℕ → Type 0
NoFree m = ⊥

-- a copy's source is a root
pub rooted_moves : (e : List Root) (r : Row) (rd s : ℕ) → rooted e r ≡ Moves rd s → (t : ℕ) × (s ≡ root_of e t)
rooted_moves e (Moves rd t) rd' s is = (t, (let same : root_of e t ≡ s = cc in sym same))
rooted_moves e _ rd' s is = cc

pub none_known : (x : Option ℕ) → is_some x ≡ false → x ≡ None
none_known None h = refl
none_known (Some s) h = cc

pub some_known : (x : Option ℕ) → is_some x ≡ true → (s : ℕ) × (x ≡ Some s)
some_known None h = cc
some_known (Some s) h = (s, refl)

always : (x : Outcome) → OnCore (λ c. Unit {0}) x
always (Falls c) = tt
always (Goes n c) = tt
always (Gives v) = tt
always Traps = tt
always Asks = tt
always Breaks = tt

module _ (f g : Program) (blind_f : f.sees_pointer ≡ false) (blind_g : g.sees_pointer ≡ false) (resolves : (q : OperandPair) → g.resolve q ≡ f.resolve q) where
  -- an item with its roots: it stays and teaches, or is a copy that is known, which goes later
  pub data Rooted : List Root → List Root → Item → Item → Type 0 where
    stays : {e : List Root} {x : Item} → IsClean e → goes e (renamed_kind e x.kind) ≡ false →
        Rooted e (roots_with (renamed_kind e x.kind) e) x (renamed_item e x)
    goes_later : {e : List Root} {x : Item} → IsClean e → goes e (renamed_kind e x.kind) ≡ true → Rooted e e x (renamed_item e x)

  abbrev pub rooted_edits : Edits
  rooted_edits = record {
    Stage = List Root;
    entry = λ n. [];
    IsOver = λ e. Unit {0};
    Pair = Rooted;
    Out = λ a b x. ⊥;
    Put = λ a b y. ⊥;
  }

  pub record RootCores (e : List Root) (c d : Core) : Type 0 where
    pub alike : Alike Everywhere NoFree c d
    pub holds : Holds e d

  all_numbers : (i : Instruction) (m : Option ℕ) → NumbersHeld Everywhere i m
  all_numbers i None = tt
  all_numbers i (Some m) = λ p r e. inr tt

  pair_same : (q : OperandPair) (c d : Core) → DebugLessDef NoFree c d → (v : ℕ) → pair_value (g.resolve q) d ≡ Some v → pair_value (f.resolve q) c ≡ Some v
  pair_same q c d t v e = by_pair (f.resolve q) (ap (λ (x : Option OperandPair). pair_value x d) (sym (resolves q)) ∙ e) where
    by_pair : (x : Option OperandPair) → pair_value x d ≡ Some v → pair_value x c ≡ Some v
    by_pair None e = cc
    by_pair (Some r) e = t.pairs r.number r.operand (λ z. z) v e

  depends : (kind : ItemKind) (c d : Core) → Alike Everywhere NoFree c d → Depends f g Everywhere kind c d
  depends (Code i m) c d h = (λ x u. tt, all_numbers i m)
  depends (Mark v Nothing) c d h = tt
  depends (Mark v (Constant z)) c d h = tt
  depends (Mark v (At r)) c d h = tt
  depends (Mark v (Pair q)) c d h = pair_same q c d h.told
  depends (Phi None m) c d h = tt
  depends (Phi (Some x) m) c d h = tt

  all_after : (kind : ItemKind) (c d : Core) → Alike (HeldAfter Everywhere kind) NoFree c d → Alike Everywhere NoFree c d
  all_after (Code i m) c d h = record { held = held_fewer (GenDefs Everywhere i) Everywhere (λ x u. inr tt) c d h.held; told = h.told }
  all_after (Mark v m) c d h = h
  all_after (Phi p m) c d h = h

  -- an item of both does alike
  pub item_same : (kind : ItemKind) (c d : Core) → Alike Everywhere NoFree c d → EndAlike (Alike Everywhere NoFree) (do_item f kind c) (do_item g kind d)
  item_same kind c d h =
      alike_weaker (Alike (HeldAfter Everywhere kind) NoFree) (Alike Everywhere NoFree) (all_after kind) (do_item f kind c) (do_item g kind d)
      (item_both Everywhere NoFree f g kind c d (blind_f ∙ sym blind_g) h (depends kind c d h))

  -- with roots it does the same
  code_same : (e : List Root) (i : Instruction) (n : Option ℕ) (c d : Core) → IsClean e → RootCores e c d →
      EndAlike (Alike Everywhere NoFree) (do_item f (Code i n) c) (do_item g (Code (renamed e i) n) d)
  code_same e i n c d clean h =
      subst (λ (z : Outcome). EndAlike (Alike Everywhere NoFree) (do_item f (Code i n) c) z)
      (sym (do_root g e (keeps_zero e clean) i n d (holds_root e d h.holds))) (item_same (Code i n) c d h.alike)

  both_hold : (e : List Root) (x y : Outcome) → EndAlike (Alike Everywhere NoFree) x y → OnCore (Holds e) y → EndAlike (RootCores e) x y
  both_hold e x y h k =
      alike_weaker (λ c d. Alike Everywhere NoFree c d × Unit {0} × Holds e d) (RootCores e) (λ c d r. record { alike = r.0; holds = r.2 }) x y
      (alike_both (Alike Everywhere NoFree) (λ c. Unit {0}) (Holds e) x y h (always x) k)

  on_item : (e : List Root) (i : Instruction) (n : Option ℕ) (d : Core) → OnCore (Holds e) (act (row_of i) d) → OnCore (Holds e) (do_item g (Code i n) d)
  on_item e i n d h =
      on_with (Holds e) (Holds e) (numbered g.sees_pointer (is_call (row_of i)) n i.operands)
      (λ z w. holds_same e z (numbered g.sees_pointer (is_call (row_of i)) n i.operands z)
      (λ x. held_numbered x g.sees_pointer (is_call (row_of i)) n i.operands z) w)
      (act (row_of i) d) h

  stays_both : (e : List Root) (k : ItemKind) (c d : Core) → IsClean e → goes e (renamed_kind e k) ≡ false → RootCores e c d →
      EndAlike (RootCores (roots_with (renamed_kind e k) e)) (do_item f k c) (do_item g (renamed_kind e k) d)
  stays_both e (Code i n) c d clean out h =
      both_hold (roots_after (row_of (renamed e i)) e) (do_item f (Code i n) c) (do_item g (Code (renamed e i) n) d) (code_same e i n c d clean h)
      (on_item (roots_after (row_of (renamed e i)) e) (renamed e i) n d (act_holds e (renamed e i) d h.holds (row_of (renamed e i)) refl other)) where
        other : (rd s : ℕ) → row_of (renamed e i) ≡ Moves (suc rd) s → s ≡ suc rd → ⊥
        other rd s is =
            let w = rooted_moves e (row_of i) (suc rd) s (sym (row_renamed e (keeps_zero e clean) i) ∙ is) in
            not_itself e clean rd s w.0 w.1 (ap (known_source e) (sym is) ∙ none_known (known_source e (row_of (renamed e i))) out)
  stays_both e (Mark v m) c d clean out h = record { alike = item_same (Mark v m) c d h.alike; holds = h.holds }
  stays_both e (Phi p m) c d clean out h = record { alike = item_same (Phi p m) c d h.alike; holds = h.holds }

  later_both : (e : List Root) (k : ItemKind) (c d : Core) → IsClean e → goes e (renamed_kind e k) ≡ true → RootCores e c d →
      EndAlike (RootCores e) (do_item f k c) (do_item g (renamed_kind e k) d)
  later_both e (Code i n) c d clean is h =
      let s = some_known (known_source e (row_of (renamed e i))) is in
      let w = known_moves e (row_of (renamed e i)) s.0 s.1 in
      both_hold e (do_item f (Code i n) c) (do_item g (Code (renamed e i) n) d) (code_same e i n c d clean h)
      (on_item e (renamed e i) n d
      (on_weaker (λ z. (x : Place) → held_in x z ≡ held_in x d) (Holds e) (λ z same. holds_same e d z same h.holds) (act (row_of (renamed e i)) d)
      (known_leaves e (renamed e i) d h.holds w.0 s.0 w.1 w.2)))
  later_both e (Mark v m) c d clean is h = cc
  later_both e (Phi p m) c d clean is h = cc

  both : (a b : List Root) (x y : Item) → Rooted a b x y → (c d : Core) → RootCores a c d → EndAlike (RootCores b) (do_item f x.kind c) (do_item g y.kind d)
  both a b x y (stays {e} clean out) c d h = stays_both e x.kind c d clean out h
  both a b x y (goes_later {e} clean is) c d h = later_both e x.kind c d clean is h

  pub to_start : (e : List Root) (c d : Core) → RootCores e c d → RootCores [] c d
  to_start e c d h = record { alike = h.alike; holds = holds_none d }

  pub rooted_keeps : Keeps rooted_edits RootCores f g
  rooted_keeps = record {
    code = λ a b x y how code code' c d h. alike_of (RootCores b) (λ t. RootCores []) (RootCores b) (do_item f x.kind c) (do_item g y.kind d) (λ z z' r. r)
        (λ t z z' go r. to_start b z z' r) (both a b x y how c d h);
    debug = λ a b x y how none none' c d h. both a b x y how c d h;
    out_code = λ a b x h. absurd h;
    out_stays = λ a b x h. absurd h;
    outs = λ a b x h. absurd h;
    puts = λ a b y h. absurd h;
    ends = λ a n c d done h. to_start a c d h;
    shows = λ a c d h. shows_alike Everywhere NoFree c d h.alike;
  }

  pub rooted_itself : (c : Core) → RootCores [] c c
  rooted_itself c = record { alike = record { held = held_itself Everywhere c; told = tells_itself NoFree c }; holds = holds_none c }
