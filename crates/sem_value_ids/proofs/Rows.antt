-- What code of each row does to tokens and values.
use Rattle.std.proofs.Common.{◌≡◌, ℕ, zero, suc, List, [], ◌∷◌, Option, Some, None, Bool, true, false, cond, refl, sym, ap, ◌∙◌, subst, eqb, arith}
use Rattle.std.specs.Prelude.{nat_eq}
use Rattle.std.specs.List.{list_any}
use Rattle.std.proofs.lemmas.Bool.{ne_eqb}
use Rattle.rv64_instr.specs.Arithmetic.{taken, load_width, store_width}
use Rattle.rv64_instr.specs.Row.{Row, Fixes, Moves, Sets, Addresses, Loads, Stores, LoadsSlot, StoresSlot, Branches, Jumps, Calls, Returns, Unfit}
use Rattle.rv64_instr.specs.DefsAndUses.{caller_saved, reads}
use Rattle.sem_mir.specs.State.{Core, Reply, updated, without, content, put, put_all}
use Rattle.sem_mir.specs.Step.{Outcome, Falls, Goes, Traps, act, does, read}
use Rattle.sem_mir.specs.Step.{or_zero, set_register, exec_external_call, slot_loaded, are_written, is_fault, called_at}
use Rattle.sem_mir.specs.Step.{address_at, passed, call_faults}
use Rattle.sem_mir.specs.ValueId.{Token, Made, Fixed, Tokens, register_token, put_token, make_all, moved_tokens, sets_pointer, code_tokens}
use Rattle.sem_value_ids.proofs.Naming.{Holds, IsOld, Good, AreOld, holds_agree, extend, extend_agrees, made_put, made_all, holds_put, holds_made}
use Rattle.sem_value_ids.proofs.Naming.{old_put, old_made_or, old_later}

-- the core after an outcome that goes on
abbrev pub GoesOn : Outcome → Core → Type 0
GoesOn (Falls d) c = d ≡ c
GoesOn (Goes n d) c = d ≡ c
GoesOn _ c = ⊥

-- what code has done to registers and slots: the history stays
pub record AfterCode (n : ℕ) (V : Token → ℕ) (t t' : Tokens) (c c' : Core) : Type 0 where
  pub regs : (r : ℕ) → Holds (extend n c'.regs V) (register_token t'.regs r) (content c'.regs r)
  pub slots : (k : ℕ) → Holds (extend n c'.regs V) (t'.slots k) (c'.slots k)
  pub old_regs : (r : ℕ) → IsOld (suc n) (register_token t'.regs r)
  pub old_slots : (k : ℕ) → IsOld (suc n) (t'.slots k)
  pub pointer : register_token t'.regs 2 ≡ None
  pub pairs : c'.pairs ≡ c.pairs
  pub marks : c'.marks ≡ c.marks
  pub token_pairs : t'.pairs ≡ t.pairs
  pub token_marks : t'.marks ≡ t.marks

-- what is read of a register with a token
holds_read : (V : Token → ℕ) (x : Option Token) (y : Option ℕ) → Holds V x y → Holds V x (Some (or_zero y))
holds_read V None y h = tt
holds_read V (Some k) y h = ap (λ (z : Option ℕ). Some (or_zero z)) h

holds_some : (V : Token → ℕ) (x : Option Token) (v : ℕ) (y : Option ℕ) → y ≡ Some v → Holds V x y → Holds V x (Some v)
holds_some V None v y e h = tt
holds_some V (Some k) v y e h = sym e ∙ h

pointer_put : (rd : ℕ) (x : Option Token) (tr : ℕ → Option Token) → register_token tr 2 ≡ None → register_token (put_token rd x tr) 2 ≡ None
pointer_put zero x tr e = e
pointer_put (suc zero) x tr e = e
pointer_put (suc (suc zero)) x tr e = refl
pointer_put (suc (suc (suc r))) x tr e =
    let ne : 2 ≡ suc (suc (suc r)) → ⊥ = λ same. absurd (omega arith) in
    ap (λ (z : Bool). cond z (cond (eqb (suc (suc r)) 1) None x) (tr 2)) (ne_eqb 2 (suc (suc (suc r))) ne) ∙ e

pointer_all : (n : ℕ) (rs : List ℕ) (tr : ℕ → Option Token) → register_token tr 2 ≡ None → register_token (make_all n rs tr) 2 ≡ None
pointer_all n [] tr e = e
pointer_all n (r ∷ rs) tr e = pointer_all n rs (put_token r (Some (Made n r)) tr) (pointer_put r (Some (Made n r)) tr e)

holds_updated : (V : Token → ℕ) (k : ℕ) (x : Option Token) (v : ℕ) (ts : ℕ → Option Token) (cs : ℕ → Option ℕ) → Holds V x (Some v) →
    ((q : ℕ) → Holds V (ts q) (cs q)) →
    (q : ℕ) → Holds V (updated k x ts q) (updated k (Some v) cs q)
holds_updated V k x v ts cs h all q = elim (eqb q k) as (λ b. Holds V (cond b x (ts q)) (cond b (Some v) (cs q))) [ true ↦ h | false ↦ all q ]

old_updated : (n k : ℕ) (x : Option Token) (ts : ℕ → Option Token) → IsOld n x → ((q : ℕ) → IsOld n (ts q)) → (q : ℕ) → IsOld n (updated k x ts q)
old_updated n k x ts h all q = elim (eqb q k) as (λ b. IsOld n (cond b x (ts q))) [ true ↦ h | false ↦ all q ]

holds_without : (V : Token → ℕ) (ns : List ℕ) (ts : ℕ → Option Token) (cs : ℕ → Option ℕ) → ((q : ℕ) → Holds V (ts q) (cs q)) →
    (q : ℕ) → Holds V (without ns ts q) (without ns cs q)
holds_without V ns ts cs all q =
    elim (list_any (nat_eq q) ns) as (λ b. Holds V (cond b None (ts q)) (cond b None (cs q))) [ true ↦ tt | false ↦ all q ]

old_without : (n : ℕ) (ns : List ℕ) (ts : ℕ → Option Token) → ((q : ℕ) → IsOld n (ts q)) → (q : ℕ) → IsOld n (without ns ts q)
old_without n ns ts all q = elim (list_any (nat_eq q) ns) as (λ b. IsOld n (cond b None (ts q))) [ true ↦ tt | false ↦ all q ]

-- nothing changed but memory, events and the script
same_values : (V : Token → ℕ) (n : ℕ) (t : Tokens) (c c' : Core) → AreOld n t → Good V t c → c'.regs ≡ c.regs → c'.slots ≡ c.slots → c'.pairs ≡ c.pairs →
    c'.marks ≡ c.marks → AfterCode n V t t c c'
same_values V n t c c' o g er es ep em =
    let W = extend n c'.regs V in
    record {
      regs = λ r. subst (λ (z : ℕ → Option ℕ). Holds W (register_token t.regs r) (content z r)) (sym er)
          (holds_agree n V W (extend_agrees n c'.regs V) _ _ (o.regs r) (g.regs r));
      slots = λ k. subst (λ (z : ℕ → Option ℕ). Holds W (t.slots k) (z k)) (sym es) (holds_agree n V W (extend_agrees n c'.regs V) _ _ (o.slots k) (g.slots k));
      old_regs = λ r. old_later n _ (o.regs r);
      old_slots = λ k. old_later n _ (o.slots k);
      pointer = o.pointer;
      pairs = ep;
      marks = em;
      token_pairs = refl;
      token_marks = refl;
    }

-- a register is put that has this token, which was there before
put_old : (V : Token → ℕ) (n rd v : ℕ) (x : Option Token) (t : Tokens) (c : Core) → AreOld n t → Good V t c → IsOld n x → Holds V x (Some v) →
    AfterCode n V t (record t { regs = put_token rd x t.regs }) c (set_register rd v c)
put_old V n rd v x t c o g ox h =
    let W = extend n (put rd v c.regs) V in
    record {
      regs = holds_put W rd x v t.regs c.regs (holds_agree n V W (extend_agrees n (put rd v c.regs) V) _ _ ox h)
          (λ r. holds_agree n V W (extend_agrees n (put rd v c.regs) V) _ _ (o.regs r) (g.regs r));
      slots = λ k. holds_agree n V W (extend_agrees n (put rd v c.regs) V) _ _ (o.slots k) (g.slots k);
      old_regs = old_put (suc n) rd x t.regs (old_later n x ox) (λ r. old_later n _ (o.regs r));
      old_slots = λ k. old_later n _ (o.slots k);
      pointer = pointer_put rd x t.regs o.pointer;
      pairs = refl;
      marks = refl;
      token_pairs = refl;
      token_marks = refl;
    }

-- a register is put that gets a new token
put_new : (V : Token → ℕ) (n rd v : ℕ) (t : Tokens) (c : Core) → AreOld n t → Good V t c →
    AfterCode n V t (record t { regs = put_token rd (Some (Made n rd)) t.regs }) c (set_register rd v c)
put_new V n rd v t c o g =
    let W = extend n (put rd v c.regs) V in
    record {
      regs = holds_made n V t.regs (put_token rd (Some (Made n rd)) t.regs) c.regs (put rd v c.regs) (made_put n rd v t.regs c.regs) o.regs g.regs;
      slots = λ k. holds_agree n V W (extend_agrees n (put rd v c.regs) V) _ _ (o.slots k) (g.slots k);
      old_regs = old_put (suc n) rd (Some (Made n rd)) t.regs (omega arith) (λ r. old_later n _ (o.regs r));
      old_slots = λ k. old_later n _ (o.slots k);
      pointer = pointer_put rd (Some (Made n rd)) t.regs o.pointer;
      pairs = refl;
      marks = refl;
      token_pairs = refl;
      token_marks = refl;
    }

unless_traps : (b : Bool) (d c' : Core) → GoesOn (cond b Traps (Falls d)) c' → d ≡ c'
unless_traps true d c' e = absurd e
unless_traps false d c' e = e

either_way : (b : Bool) (n : ℕ) (c c' : Core) → GoesOn (cond b (Goes n c) (Falls c)) c' → c ≡ c'
either_way true n c c' e = e
either_way false n c c' e = e

-- a row moves tokens as it moves values
pub row_names : (V : Token → ℕ) (n : ℕ) (r : Row) (t : Tokens) (c c' : Core) → AreOld n t → Good V t c → GoesOn (does r c) c' →
    AfterCode n V t (moved_tokens n r t) c c'
unfolding does moved_tokens
row_names V n (Fixes rd k) t c c' o g e = subst (λ (z : Core). AfterCode n V t (record t { regs = put_token rd (Some (Fixed k)) t.regs }) c z) e
    (put_old V n rd k (Some (Fixed k)) t c o g tt (ap Some (sym (g.numbers k))))
row_names V n (Moves rd rs) t c c' o g e = subst (λ (z : Core). AfterCode n V t (record t { regs = put_token rd (register_token t.regs rs) t.regs }) c z) e
    (put_old V n rd (read c rs) (register_token t.regs rs) t c o g (o.regs rs) (holds_read V _ _ (g.regs rs)))
row_names V n (Sets rd op a b) t c c' o g e =
    subst (λ (z : Core). AfterCode n V t (record t { regs = put_token rd (Some (Made n rd)) t.regs }) c z) e (put_new V n rd _ t c o g)
row_names V n (Addresses rd k offset) t c c' o g e =
    subst (λ (z : Core). AfterCode n V t (record t { regs = put_token rd (Some (Made n rd)) t.regs }) c z) e (put_new V n rd _ t c o g)
row_names V n (Loads rd op base offset) t c c' o g e =
    subst (λ (z : Core). AfterCode n V t (record t { regs = put_token rd (Some (Made n rd)) t.regs }) c z)
    (unless_traps (is_fault base c (address_at c base offset) (load_width op)) _ c' e) (put_new V n rd _ t c o g)
row_names V n (Stores op rs base offset) t c c' o g e =
    subst (λ (z : Core). AfterCode n V t t c z) (unless_traps (is_fault base c (address_at c base offset) (store_width op)) _ c' e)
    (same_values V n t c _ o g refl refl refl refl)
row_names V n (LoadsSlot rd k) t c c' o g e = filled (c.slots k) refl e where
  filled : (y : Option ℕ) → c.slots k ≡ y → GoesOn (slot_loaded rd c y) c' → AfterCode n V t (record t { regs = put_token rd (t.slots k) t.regs }) c c'
  filled None q e = absurd e
  filled (Some v) q e = subst (λ (z : Core). AfterCode n V t (record t { regs = put_token rd (t.slots k) t.regs }) c z) e
      (put_old V n rd v (t.slots k) t c o g (o.slots k) (holds_some V (t.slots k) v (c.slots k) q (g.slots k)))
row_names V n (StoresSlot rs k) t c c' o g e =
    let W = extend n c.regs V in
    let same = extend_agrees n c.regs V in
    subst (λ (z : Core). AfterCode n V t (record t { slots = updated k (register_token t.regs rs) t.slots }) c z) e (record {
      regs = λ r. holds_agree n V W same _ _ (o.regs r) (g.regs r);
      slots = holds_updated W k (register_token t.regs rs) (read c rs) t.slots c.slots (holds_agree n V W same _ _ (o.regs rs) (holds_read V _ _ (g.regs rs)))
          (λ q. holds_agree n V W same _ _ (o.slots q) (g.slots q));
      old_regs = λ r. old_later n _ (o.regs r);
      old_slots = old_updated (suc n) k (register_token t.regs rs) t.slots (old_later n _ (o.regs rs)) (λ q. old_later n _ (o.slots q));
      pointer = o.pointer;
      pairs = refl;
      marks = refl;
      token_pairs = refl;
      token_marks = refl;
    })
row_names V n (Branches op a b target) t c c' o g e =
    subst (λ (z : Core). AfterCode n V t t c z) (either_way (taken op (read c a) (read c b)) target c c' e) (same_values V n t c c o g refl refl refl refl)
row_names V n (Jumps target) t c c' o g e = subst (λ (z : Core). AfterCode n V t t c z) e (same_values V n t c c o g refl refl refl refl)
row_names V n (Calls call) t c c' o g e = called c.script e where
  called : (s : List Reply) → GoesOn (exec_external_call (called_at c call.callee) (passed c call) call.outgoing c s) c' →
      AfterCode n V t (record t { regs = make_all n caller_saved t.regs; slots = without call.outgoing t.slots }) c c'
  called [] e = absurd e
  called (y ∷ rest) e =
      let cr = put_all caller_saved y.regs c.regs in
      let W = extend n cr V in
      let new = made_all n caller_saved y.regs t.regs c.regs in
      subst (λ (z : Core). AfterCode n V t (record t { regs = make_all n caller_saved t.regs; slots = without call.outgoing t.slots }) c z)
      (unless_traps (call_faults c call.outgoing y) _ c' e) (record {
        regs = holds_made n V t.regs (make_all n caller_saved t.regs) c.regs cr new o.regs g.regs;
        slots = holds_without W call.outgoing t.slots c.slots (λ k. holds_agree n V W (extend_agrees n cr V) _ _ (o.slots k) (g.slots k));
        old_regs = λ r. old_made_or n r t.regs (make_all n caller_saved t.regs) c.regs cr (new r) (old_later n _ (o.regs r));
        old_slots = old_without (suc n) call.outgoing t.slots (λ k. old_later n _ (o.slots k));
        pointer = pointer_all n caller_saved t.regs o.pointer;
        pairs = refl;
        marks = refl;
        token_pairs = refl;
        token_marks = refl;
      })
row_names V n (Returns ending) t c c' o g e = absurd e
row_names V n Unfit t c c' o g e = absurd e

unless_unwritten : (b : Bool) (x : Outcome) (c' : Core) → GoesOn (cond b x Traps) c' → GoesOn x c'
unless_unwritten true x c' e = e
unless_unwritten false x c' e = absurd e

-- the same with slots' tokens taken away by a write of x2
cleared : (V : Token → ℕ) (n : ℕ) (t t' : Tokens) (c c' : Core) → AfterCode n V t t' c c' → AfterCode n V t (record t' { slots = λ k. None }) c c'
cleared V n t t' c c' a = record {
  regs = a.regs;
  slots = λ k. tt;
  old_regs = a.old_regs;
  old_slots = λ k. tt;
  pointer = a.pointer;
  pairs = a.pairs;
  marks = a.marks;
  token_pairs = a.token_pairs;
  token_marks = a.token_marks;
}

pub code_names : (V : Token → ℕ) (n : ℕ) (r : Row) (t : Tokens) (c c' : Core) → AreOld n t → Good V t c → GoesOn (act r c) c' →
    AfterCode n V t (code_tokens n r t) c c'
unfolding act
code_names V n r t c c' o g e =
    let a = row_names V n r t c c' o g (unless_unwritten (are_written c (reads r)) (does r c) c' e) in
    elim (sets_pointer r) as (λ z. AfterCode n V t (cond z (record (moved_tokens n r t) { slots = λ k. None }) (moved_tokens n r t)) c c') [
      | true ↦ cleared V n t (moved_tokens n r t) c c' a
      | false ↦ a
    ]
