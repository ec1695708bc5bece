-- Code of a row in one run, and code with other registers in another: where they read alike, they do alike, and set alike.
use Rattle.std.proofs.Common.{◌≡◌, ℕ, zero, suc, ◌+◌, ◌%◌, ◌^◌, List, [], ◌∷◌, Contains, Option, Some, None, Bool, false, cond, ◌&&◌, is_some}
use Rattle.std.proofs.Common.{refl, sym, ap, ◌∙◌, subst, inl, inr, arith}
use Rattle.std.proofs.lemmas.Bool.{cases_eq}
use Rattle.rv64_instr.specs.declared.op.LoadOp.{LoadOp}
use Rattle.rv64_instr.specs.declared.op.StoreOp.{StoreOp}
use Rattle.rv64_instr.specs.declared.symbol.Half.TheVariants.{Lower}
use Rattle.rv64_instr.specs.Linked.{linked_value}
use Rattle.rv64_instr.specs.Row.{Input, Content, Number, PartOf}
use Rattle.rv64_instr.specs.Row.{Base, PointedBy, ObjectAt, BesidePart}
use Rattle.rv64_instr.specs.Arithmetic.{computed, taken, load_width, store_width, extended}
use Rattle.rv64_instr.specs.Row.{Row, Fixes, Moves, Sets, Addresses, Loads, Stores, LoadsSlot, StoresSlot, Branches, Jumps, Calls, Returns, Unfit}
use Rattle.rv64_instr.specs.DefsAndUses.{input_reads, base_reads, reads, sets}
use Rattle.rv64_instr.specs.LocationEffects.{slot_read, slot_set, has_implicit_uses}
use Rattle.mir_func.specs.declared.variable.VarId.{VarId}
use Rattle.sem_mir.specs.State.{Core, content, updated, put, spelled, low_bytes}
use Rattle.sem_mir.specs.Step.{Falls, Goes, Traps, or_zero, read, input_value, base_value, address_at, is_fault, set_register, slot_loaded}
use Rattle.sem_mir.specs.Step.{loaded, saved, put_in_memory, does, are_written, act}
use Rattle.sem_mir.specs.Effects.{EndAlike, SameWorld}
use Rattle.sem_mir.proofs.Places.{put_same, updated_same, contains_head, contains_tail}
use Rattle.sem_mir.proofs.Outcomes.{alike_either}
use Rattle.sem_mir.proofs.Effects.{other_places}
use Rattle.spill_simulation.proofs.Rows.{renamed_row, renamed_input, renamed_base}

-- x0 stays x0 where it is set, and nothing else becomes it
pub record SetsZero (at_def : ℕ → ℕ) : Type 0 where
  pub zero_stays : at_def 0 ≡ 0
  pub no_other : (r : ℕ) → at_def r ≡ 0 → r ≡ 0

-- the second list has the first one's registers under their other names
abbrev pub AreRenamed : (ℕ → ℕ) → List ℕ → List ℕ → Type 0
AreRenamed at_use [] [] = Unit {0}
AreRenamed at_use (q ∷ qs) (q' ∷ qs') = (q' ≡ at_use q) × AreRenamed at_use qs qs'
AreRenamed at_use [] (q' ∷ qs') = ⊥
AreRenamed at_use (q ∷ qs) [] = ⊥

input_renamed : (at_use at_def : ℕ → ℕ) (b : Input) → AreRenamed at_use (input_reads b) (input_reads (renamed_input at_use at_def b))
input_renamed at_use at_def (Content r) = (refl, tt)
input_renamed at_use at_def (Number n) = tt
input_renamed at_use at_def (PartOf half y) = tt

base_renamed : (at_use at_def : ℕ → ℕ) (b : Base) → AreRenamed at_use (base_reads b) (base_reads (renamed_base at_use at_def b))
base_renamed at_use at_def (PointedBy r) = (refl, tt)
base_renamed at_use at_def (ObjectAt n) = tt
base_renamed at_use at_def (BesidePart r y) = (refl, tt)

-- a row with other registers reads those
pub reads_renamed : (at_use at_def : ℕ → ℕ) (r : Row) → has_implicit_uses r ≡ false → AreRenamed at_use (reads r) (reads (renamed_row at_use at_def r))
reads_renamed at_use at_def (Moves rd rs) i = (refl, tt)
reads_renamed at_use at_def (Sets rd op a b) i = (refl, input_renamed at_use at_def b)
reads_renamed at_use at_def (Loads rd op b o) i = base_renamed at_use at_def b
reads_renamed at_use at_def (Stores op rs b o) i = (refl, base_renamed at_use at_def b)
reads_renamed at_use at_def (StoresSlot rs n) i = (refl, tt)
reads_renamed at_use at_def (Branches op a b t) i = (refl, (refl, tt))
reads_renamed at_use at_def (Calls call) i = cc
reads_renamed at_use at_def (Returns v) i = cc
reads_renamed at_use at_def _ i = tt

module _ (at_use at_def : ℕ → ℕ) (keeps : SetsZero at_def) where
  -- what both set is alike, under its register in each
  pub record Made (r : Row) (c d : Core) : Type 0 where
    pub world : SameWorld c d
    pub regs : (q : ℕ) → Contains (sets r) q → content c.regs q ≡ content d.regs (at_def q)
    pub slots : (n : ℕ) → slot_set r ≡ Some n → c.slots n ≡ d.slots n

  -- both read alike, under the register in each
  pub record ReadsAlike (r : Row) (c d : Core) : Type 0 where
    pub regs : (q : ℕ) → Contains (reads r) q → content c.regs q ≡ content d.regs (at_use q)
    pub slots : (n : ℕ) → slot_read r ≡ Some n → c.slots n ≡ d.slots n

  one_of : (r q : ℕ) → Contains (r ∷ []) q → q ≡ r
  one_of r q (zero, lt, e) = sym e
  one_of r q (suc k, lt, e) = absurd (omega (arith, lt))

  none_of : {A : Type 0} (q : A) → Contains [] q → ⊥
  none_of q (k, lt, e) = absurd (omega (arith, lt))

  put_alike : (rd v w : ℕ) (regs regs' : ℕ → Option ℕ) → v ≡ w → content (put rd v regs) rd ≡ content (put (at_def rd) w regs') (at_def rd)
  put_alike rd v w regs regs' e =
      elim (cases_eq rd 0) as (λ z. content (put rd v regs) rd ≡ content (put (at_def rd) w regs') (at_def rd)) [
        | inl z ↦
            let a : content (put rd v regs) rd ≡ Some 0 = ap (content (put rd v regs)) z in
            let b : content (put (at_def rd) w regs') (at_def rd) ≡ Some 0 = ap (content (put (at_def rd) w regs')) (ap at_def z ∙ keeps.zero_stays) in
            a ∙ sym b
        | inr ne ↦ put_same rd v regs ne ∙ ap Some e ∙ sym (put_same (at_def rd) w regs' (λ z. ne (keeps.no_other rd z)))
      ]

  module _ (c : Core) (regs slots : ℕ → Option ℕ) (pairs : ℕ → ℕ → Option ℕ) (marks : List (VarId × Option ℕ)) where
    abbrev d : Core
    d = other_places regs slots pairs marks c

    read_alike : (q : ℕ) → content c.regs q ≡ content regs (at_use q) → read c q ≡ read d (at_use q)
    read_alike q e = ap or_zero e

    -- a register is set to one value in both
    set_made : (r : Row) (rd v w : ℕ) → ((q : ℕ) → Contains (sets r) q → q ≡ rd) → ((n : ℕ) → slot_set r ≡ Some n → ⊥) → v ≡ w →
        Made r (set_register rd v c) (set_register (at_def rd) w d)
    set_made r rd v w only none e = record {
      world = record { entry = refl; area = refl; objects = refl; symbols = refl; memory = refl; script = refl; events = refl };
      regs = λ q k. (let z = only q k in
          subst (λ (x : ℕ). content (put rd v c.regs) x ≡ content (put (at_def rd) w regs) (at_def x)) (sym z) (put_alike rd v w c.regs regs e));
      slots = λ n k. absurd (none n k);
    }

    -- nothing is set
    stay_made : (r : Row) → ((q : ℕ) → Contains (sets r) q → ⊥) → ((n : ℕ) → slot_set r ≡ Some n → ⊥) → Made r c d
    stay_made r none none' = record {
      world = record { entry = refl; area = refl; objects = refl; symbols = refl; memory = refl; script = refl; events = refl };
      regs = λ q k. absurd (none q k);
      slots = λ n k. absurd (none' n k);
    }

    input_alike : (b : Input) → ((q : ℕ) → Contains (input_reads b) q → content c.regs q ≡ content regs (at_use q)) →
        input_value c b ≡ input_value d (renamed_input at_use at_def b)
    input_alike (Content r) u = read_alike r (u r (contains_head r []))
    input_alike (Number n) u = refl
    input_alike (PartOf half y) u = refl

    base_alike : (b : Base) → ((q : ℕ) → Contains (base_reads b) q → content c.regs q ≡ content regs (at_use q)) →
        base_value c b ≡ base_value d (renamed_base at_use at_def b)
    base_alike (PointedBy r) u = read_alike r (u r (contains_head r []))
    base_alike (ObjectAt n) u = refl
    base_alike (BesidePart r y) u = ap (λ (z : ℕ). (z + linked_value c.symbols Lower y) % 2 ^ 64) (read_alike r (u r (contains_head r [])))

    fault_same : (b : Base) (a n : ℕ) → is_fault (renamed_base at_use at_def b) d a n ≡ is_fault b c a n
    fault_same (PointedBy r) a n = refl
    fault_same (ObjectAt m) a n = refl
    fault_same (BesidePart r y) a n = refl

    loaded_made : (rd : ℕ) (op : LoadOp) (b : Base) (o a a' : ℕ) → a ≡ a' →
        EndAlike (Made (Loads rd op b o)) (loaded rd op b a c) (loaded (at_def rd) op (renamed_base at_use at_def b) a' d)
    loaded_made rd op b o a a' e =
        let r = Loads rd op b o in
        let v = extended op (spelled c.memory a (load_width op)) in
        subst (λ (z : ℕ). EndAlike (Made r) (loaded rd op b a c) (loaded (at_def rd) op (renamed_base at_use at_def b) z d)) e
        (subst (λ (z : Bool). EndAlike (Made r) (loaded rd op b a c) (cond z Traps (Falls (set_register (at_def rd) v d))))
        (sym (fault_same b a (load_width op)))
        (alike_either (Made r) (is_fault b c a (load_width op)) Traps (Falls (set_register rd v c)) Traps (Falls (set_register (at_def rd) v d)) tt
        (set_made r rd v v (λ q k. one_of rd q k) (λ n k. cc) refl)))

    stored_made : (op : StoreOp) (rs : ℕ) (b : Base) (o a a' v v' : ℕ) → a ≡ a' → v ≡ v' →
        EndAlike (Made (Stores op rs b o)) (put_in_memory op b a v c) (put_in_memory op (renamed_base at_use at_def b) a' v' d)
    stored_made op rs b o a a' v v' e e' =
        let r = Stores op rs b o in
        let bytes = low_bytes (store_width op) v in
        subst (λ (z : ℕ). EndAlike (Made r) (put_in_memory op b a v c) (put_in_memory op (renamed_base at_use at_def b) z v' d)) e
        (subst (λ (w : ℕ). EndAlike (Made r) (put_in_memory op b a v c) (put_in_memory op (renamed_base at_use at_def b) a w d)) e'
        (subst (λ (z : Bool). EndAlike (Made r) (put_in_memory op b a v c) (cond z Traps (Falls (saved a bytes d)))) (sym (fault_same b a (store_width op)))
        (alike_either (Made r) (is_fault b c a (store_width op)) Traps (Falls (saved a bytes c)) Traps (Falls (saved a bytes d)) tt
        (record {
          world = record { entry = refl; area = refl; objects = refl; symbols = refl; memory = refl; script = refl; events = refl };
          regs = λ q k. absurd (none_of q k);
          slots = λ n k. cc;
        }))))

    slot_made : (rd n : ℕ) (x y : Option ℕ) → x ≡ y → EndAlike (Made (LoadsSlot rd n)) (slot_loaded rd c x) (slot_loaded (at_def rd) d y)
    slot_made rd n None None e = tt
    slot_made rd n (Some v) (Some w) e = let z : v ≡ w = cc in set_made (LoadsSlot rd n) rd v w (λ q k. one_of rd q k) (λ m k. cc) z
    slot_made rd n None (Some w) e = cc
    slot_made rd n (Some v) None e = cc

    does_made : (r : Row) → has_implicit_uses r ≡ false → ReadsAlike r c d → EndAlike (Made r) (does r c) (does (renamed_row at_use at_def r) d)
    unfolding does
    does_made (Fixes rd n) i u = set_made (Fixes rd n) rd n n (λ q k. one_of rd q k) (λ m k. cc) refl
    does_made (Moves rd rs) i u = set_made (Moves rd rs) rd (read c rs) (read d (at_use rs)) (λ q k. one_of rd q k) (λ m k. cc)
        (read_alike rs (u.regs rs (contains_head rs [])))
    does_made (Sets rd op a b) i u =
        let ea = read_alike a (u.regs a (contains_head a (input_reads b))) in
        let eb = input_alike b (λ q k. u.regs q (contains_tail a q (input_reads b) k)) in
        set_made (Sets rd op a b) rd (computed op (read c a) (input_value c b))
        (computed op (read d (at_use a)) (input_value d (renamed_input at_use at_def b)))
        (λ q k. one_of rd q k) (λ m k. cc) (λ i. computed op (ea i) (eb i))
    does_made (Addresses rd n o) i u =
        set_made (Addresses rd n o) rd (address_at c (ObjectAt n) o) (address_at d (ObjectAt n) o) (λ q k. one_of rd q k) (λ m k. cc) refl
    does_made (Loads rd op b o) i u =
        let e = base_alike b (λ q k. u.regs q k) in
        loaded_made rd op b o (address_at c b o) (address_at d (renamed_base at_use at_def b) o) (ap (λ (z : ℕ). (z + o) % 2 ^ 64) e)
    does_made (Stores op rs b o) i u =
        let e = base_alike b (λ q k. u.regs q (contains_tail rs q (base_reads b) k)) in
        stored_made op rs b o (address_at c b o) (address_at d (renamed_base at_use at_def b) o) (read c rs) (read d (at_use rs))
        (ap (λ (z : ℕ). (z + o) % 2 ^ 64) e) (read_alike rs (u.regs rs (contains_head rs (base_reads b))))
    does_made (LoadsSlot rd n) i u = slot_made rd n (c.slots n) (slots n) (u.slots n refl)
    does_made (StoresSlot rs n) i u = record {
      world = record { entry = refl; area = refl; objects = refl; symbols = refl; memory = refl; script = refl; events = refl };
      regs = λ q k. absurd (none_of q k);
      slots = λ m k. (let z : n ≡ m = cc in
          subst (λ (x : ℕ). updated n (Some (read c rs)) c.slots x ≡ updated n (Some (read d (at_use rs))) slots x) z
          (updated_same n (Some (read c rs)) c.slots ∙ ap Some (read_alike rs (u.regs rs (contains_head rs []))) ∙
          sym (updated_same n (Some (read d (at_use rs))) slots)));
    }
    does_made (Branches op a b t) i u =
        let r = Branches op a b t in
        let ea = read_alike a (u.regs a (contains_head a (b ∷ []))) in
        let eb = read_alike b (u.regs b (contains_tail a b (b ∷ []) (contains_head b []))) in
        let e : taken op (read c a) (read c b) ≡ taken op (read d (at_use a)) (read d (at_use b)) = λ i. taken op (ea i) (eb i) in
        let st = stay_made r (λ q k. none_of q k) (λ n k. cc) in
        subst (λ (z : Bool). EndAlike (Made r) (cond (taken op (read c a) (read c b)) (Goes t c) (Falls c)) (cond z (Goes t d) (Falls d))) e
        (alike_either (Made r) (taken op (read c a) (read c b)) (Goes t c) (Falls c) (Goes t d) (Falls d) (refl, st) st)
    does_made (Jumps t) i u = (refl, stay_made (Jumps t) (λ q k. none_of q k) (λ n k. cc))
    does_made (Calls call) i u = cc
    does_made (Returns v) i u = cc
    does_made Unfit i u = tt

    written_alike : (qs qs' : List ℕ) → AreRenamed at_use qs qs' → ((q : ℕ) → Contains qs q → content c.regs q ≡ content regs (at_use q)) →
        are_written c qs ≡ are_written d qs'
    written_alike [] [] m u = refl
    written_alike (q ∷ qs) (q' ∷ qs') m u =
        let e : is_some (content c.regs q) ≡ is_some (content regs q') = ap is_some (u q (contains_head q qs) ∙ ap (content regs) (sym m.0)) in
        let es = written_alike qs qs' m.1 (λ p k. u p (contains_tail q p qs k)) in
        λ i. e i && es i
    written_alike [] (q' ∷ qs') m u = absurd m
    written_alike (q ∷ qs) [] m u = absurd m

    act_made : (r : Row) → has_implicit_uses r ≡ false → ReadsAlike r c d → EndAlike (Made r) (act r c) (act (renamed_row at_use at_def r) d)
    unfolding act
    act_made r i u =
        let r' = renamed_row at_use at_def r in
        subst (λ (z : Bool). EndAlike (Made r) (cond (are_written c (reads r)) (does r c) Traps) (cond z (does r' d) Traps))
        (written_alike (reads r) (reads r') (reads_renamed at_use at_def r i) u.regs)
        (alike_either (Made r) (are_written c (reads r)) (does r c) Traps (does r' d) Traps (does_made r i u) tt)

  -- code with other registers does alike
  pub act_renamed : (r : Row) (c d : Core) → SameWorld c d → has_implicit_uses r ≡ false → ReadsAlike r c d →
      EndAlike (Made r) (act r c) (act (renamed_row at_use at_def r) d)
  act_renamed r c d w i u =
      let made : Core = other_places d.regs d.slots d.pairs d.marks c in
      let e : made ≡ d = λ i. record {
        entry = w.entry i;
        area = w.area i;
        objects = w.objects i;
        symbols = w.symbols i;
        regs = d.regs;
        slots = d.slots;
        memory = w.memory i;
        script = w.script i;
        events = w.events i;
        pairs = d.pairs;
        marks = d.marks;
      } in
      subst (λ (z : Core). EndAlike (Made r) (act r c) (act (renamed_row at_use at_def r) z)) e
      (act_made c d.regs d.slots d.pairs d.marks r i (record { regs = u.regs; slots = u.slots }))
