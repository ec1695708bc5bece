-- Debug values and DBG_PHIs tell no more in the second than in the first.
use Rattle.std.proofs.Common.{◌≡◌, ℕ, List, ◌∷◌, Option, Some, None, Bool, true, false, cond, nat_eq, refl, sym, ap, ◌∙◌, subst, arith}
use Rattle.rv64_instr.specs.declared.place.Place.{Place}
use Rattle.rv64_instr.specs.declared.place.Place.TheVariants.{Register, Slot, Const}
use Rattle.mir_func.specs.declared.block.Block.{Block}
use Rattle.mir_func.specs.declared.debug_substitution.OperandPair.{OperandPair}
use Rattle.mir_func.specs.declared.item.Item.{Item}
use Rattle.mir_func.specs.declared.item.ItemKind.{ItemKind}
use Rattle.mir_func.specs.declared.item.ItemKind.TheVariants.{Code, Mark, Phi}
use Rattle.mir_func.specs.declared.position.Pos.{Pos}
use Rattle.mir_func.specs.declared.variable.MarkValue.{MarkValue}
use Rattle.mir_func.specs.declared.variable.MarkValue.TheVariants.{Nothing, Constant, At, Pair}
use Rattle.mir_func.specs.declared.variable.VarId.{VarId}
use Rattle.mir_func.specs.Graph.{Program, Fetch, Here, Edge, FetchEdge, below, program_of}
use Rattle.mir_func.specs.Variables.{is_same, overlaps}
use Rattle.sem_mir.specs.Align.{is_code}
use Rattle.sem_mir.specs.Live.{Defines}
use Rattle.sem_mir.specs.State.{Core, content, assigned, updated}
use Rattle.sem_mir.specs.Step.{Falls, seen, place_value, pair_value, mark_value, part_of, do_item}
use Rattle.sem_mir.proofs.Told.{Below}
use Rattle.scan_rule.specs.pass_trait.Causes.{AsksFor, goes_on}
use Rattle.scan_rule.specs.scan_allocation.Coloring.{now, IsColoring}
use Rattle.scan_rule.specs.Rewrite.{value_now, place_now, kind_now}
use Rattle.scan_rule.specs.Silence.{Overwritten, Unset}
use Rattle.scan_simulation.specs.Follows.{SilencesWrong}
use Rattle.scan_simulation.proofs.Near.{Near}
use Rattle.scan_simulation.proofs.Next.{near_pairs, near_marks}
use Rattle.scan_simulation.proofs.Numbered.{seen_below}
use Rattle.scan_simulation.proofs.Renaming.{now_plain, now_given}

-- ---- marks and pairs

part_below : (v : VarId) (a b : Option ℕ) → Below a b → Below (part_of v a) (part_of v b)
part_below v a None h x e = cc
part_below v a (Some y) h x e = ap (part_of v) (h y refl) ∙ e

mark_below : (v : VarId) (a b : Option ℕ) (p q : List (VarId × Option ℕ)) → Below a b → ((w : VarId) → Below (assigned w p) (assigned w q)) → (w : VarId) →
    Below (assigned w ((v, part_of v a) ∷ p)) (assigned w ((v, part_of v b) ∷ q))
mark_below v a b p q h more w = by_test (is_same w v) (overlaps w v) where
  by_test : (same over : Bool) → Below (cond same (part_of v a) (cond over None (assigned w p))) (cond same (part_of v b) (cond over None (assigned w q)))
  by_test true over x e = part_below v a b h x e
  by_test false true x e = cc
  by_test false false x e = more w x e

pair_below : (k : ℕ) (a b : Option ℕ) (p q : ℕ → ℕ → Option ℕ) → Below a b → ((m o : ℕ) → Below (p m o) (q m o)) → (m o : ℕ) →
    Below (updated k (updated 0 a (p k)) p m o) (updated k (updated 0 b (q k)) q m o)
pair_below k a b p q h more m o = by_number (nat_eq m k) where
  by_operand : (zeroth : Bool) → Below (cond zeroth a (p k o)) (cond zeroth b (q k o))
  by_operand true x e = h x e
  by_operand false x e = more k o x e

  by_number : (same : Bool) → Below (cond {A = ℕ → Option ℕ} same (updated 0 a (p k)) (p m) o) (cond {A = ℕ → Option ℕ} same (updated 0 b (q k)) (q m) o)
  by_number true x e = by_operand (nat_eq o 0) x e
  by_number false x e = more m o x e

module _ (fs gs : List Block) (resolve : OperandPair → Option OperandPair) (given : ℕ → Option ℕ) where
  abbrev f : Program
  f = program_of false fs resolve

  abbrev g : Program
  g = program_of false gs resolve

  module _ (col : IsColoring f given) (start : Pos) where
    abbrev N : Pos → Core → Core → Type 0
    N = Near f given col start

    -- a register that isn't overwritten, and is written if it gets another, is seen alike
    register_below : (p : Pos) (c d : Core) (r : ℕ) → N p c d → (Overwritten f given r p → ⊥) → ((q : ℕ) → given r ≡ Some q → Unset f given start r p → ⊥) →
        Below (seen false r c) (seen false (now given r) d)
    register_below p c d r near clear sets = by_given (given r) refl where
      alike : (x : Option ℕ) → given r ≡ x → (y : Option ℕ) → content c.regs r ≡ y → content c.regs r ≡ content d.regs (now given r)
      alike None e y h = near.plain r e clear ∙ ap (content d.regs) (sym (now_plain given r e))
      alike (Some q) e None h = absurd (near.written r q e (sets q e) h)
      alike (Some q) e (Some v) h = h ∙ sym (near.renamed r q v e clear h) ∙ ap (content d.regs) (sym (now_given given r q e))

      pointer : (x : Option ℕ) → given r ≡ x → r ≡ 2 → now given r ≡ 2
      pointer None e z = now_plain given r e ∙ z
      pointer (Some q) e z = let virtual = (col.real r q e).0 in absurd (omega (arith, virtual, z))

      by_given : (x : Option ℕ) → given r ≡ x → Below (seen false r c) (seen false (now given r) d)
      by_given x e = seen_below (now given) r (now given r) c d (pointer x e) (alike x e (content c.regs r) refl)

    -- along an edge from where nothing is set
    pub near_move : (p q : Pos) (c d : Core) → N p c d → ((r : ℕ) → Defines (f.fetch p) (Register r) → ⊥) → Edge f p q → N q c d
    near_move p q c d near none edge = record {
      world = near.world;
      slots = near.slots;
      plain = λ r e clear. near.plain r e (λ over. clear (goes_on over (none r) edge));
      renamed = λ r s x e clear h. near.renamed r s x e (λ over. clear (goes_on over (none r) edge)) h;
      written = λ r s e sets h. near.written r s e (λ unset. sets (goes_on unset (none r) edge)) h;
      pairs = near.pairs;
      marks = near.marks;
    }

    module _ (silent : Pos → ℕ → Bool) (wrong : SilencesWrong f start given silent) (p : Pos) (item : Item) (at : f.fetch p ≡ Here item) where
      -- what stays isn't overwritten, and is set
      stays : (r : ℕ) (c d : Core) → N p c d → AsksFor (Register r) item.kind → silent p r ≡ false → Below (seen false r c) (seen false (now given r) d)
      stays r c d near asks quiet = register_below p c d r near
          (λ over. (let bad : false ≡ true = sym quiet ∙ wrong.overwritten p item r at asks over in cc))
          (λ q e unset. (let bad : false ≡ true = sym quiet ∙ wrong.unset p item r q at asks e unset in cc))

      value_below : (v : VarId) (m : MarkValue) (c d : Core) → item.kind ≡ Mark v m → N p c d →
          Below (mark_value f m c) (mark_value g (value_now given (silent p) m) d)
      value_below v Nothing c d kind near x e = cc
      value_below v (Constant z) c d kind near x e = e
      value_below v (Pair q) c d kind near x e = by_end (resolve q) e where
        by_end : (o : Option OperandPair) → pair_value o d ≡ Some x → pair_value o c ≡ Some x
        by_end None e = cc
        by_end (Some t) e = near.pairs t.number t.operand x e
      value_below v (At r) c d kind near x e = by_test (silent p r) refl x e where
        asks : AsksFor (Register r) item.kind
        asks = subst (AsksFor (Register r)) (sym kind) refl

        by_test : (z : Bool) → silent p r ≡ z → Below (mark_value f (At r) c) (mark_value g (cond z Nothing (At (now given r))) d)
        by_test true quiet x e = cc
        by_test false quiet x e = stays r c d near asks quiet x e

      place_below : (q : Option Place) (k : ℕ) (c d : Core) → item.kind ≡ Phi q k → N p c d →
          Below (place_value q c) (place_value (place_now given (silent p) q) d)
      place_below None k c d kind near x e = cc
      place_below (Some (Slot m)) k c d kind near x e = near.slots m ∙ e
      place_below (Some (Const z)) k c d kind near x e = e
      place_below (Some (Register r)) k c d kind near x e = by_test (silent p r) refl x e where
        asks : AsksFor (Register r) item.kind
        asks = subst (AsksFor (Register r)) (sym kind) refl

        by_test : (z : Bool) → silent p r ≡ z → Below (place_value (Some (Register r)) c) (place_value (cond z None (Some (Register (now given r)))) d)
        by_test true quiet x e = cc
        by_test false quiet x e = stays r c d near asks quiet x e

      -- a debug item sets nothing, and control goes below
      sets_nothing : is_code item.kind ≡ false → (r : ℕ) → Defines (f.fetch p) (Register r) → ⊥
      sets_nothing plain r d = by_kind item.kind plain (subst (λ (x : Fetch). Defines x (Register r)) at d) where
        by_kind : (k : ItemKind) → is_code k ≡ false → Defines (Here (record item { kind = k })) (Register r) → ⊥
        by_kind (Code i n) e d = cc
        by_kind (Mark v m) e d = d
        by_kind (Phi q n) e d = d

      goes_below : is_code item.kind ≡ false → Edge f p (below p)
      goes_below plain = subst (λ (x : Fetch). FetchEdge (λ n. n) x p (below p)) (sym at) (by_kind item.kind plain) where
        by_kind : (k : ItemKind) → is_code k ≡ false → FetchEdge (λ n. n) (Here (record item { kind = k })) p (below p)
        by_kind (Code i n) e = cc
        by_kind (Mark v m) e = refl
        by_kind (Phi q n) e = refl

      pub debug_does : is_code item.kind ≡ false → (c d : Core) → N p c d → (e e' : Core) × (do_item f item.kind c ≡ Falls e) ×
          (do_item g (kind_now given (silent p) item.kind) d ≡ Falls e') × N (below p) e e'
      debug_does plain c d near = by_kind item.kind refl plain where
        past : N (below p) c d
        past = near_move p (below p) c d near (sets_nothing plain) (goes_below plain)

        by_kind : (k : ItemKind) → item.kind ≡ k → is_code k ≡ false → (e e' : Core) × (do_item f k c ≡ Falls e) ×
            (do_item g (kind_now given (silent p) k) d ≡ Falls e') × N (below p) e e'
        by_kind (Code i n) is e = cc
        by_kind (Mark v m) is e = (
          _,
          _,
          refl,
          refl,
          near_marks f given col start (below p) c d _ _ past
              (mark_below v (mark_value f m c) (mark_value g (value_now given (silent p) m) d) c.marks d.marks (value_below v m c d is near) near.marks),
        )
        by_kind (Phi q n) is e = (
          _,
          _,
          refl,
          refl,
          near_pairs f given col start (below p) c d _ _ past
              (pair_below n (place_value q c) (place_value (place_now given (silent p) q) d) c.pairs d.pairs (place_below q n c d is near) near.pairs),
        )
