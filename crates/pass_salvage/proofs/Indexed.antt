-- What an index of items tells after one more item, one more substitution, and one more number.
use Rattle.std.proofs.Common.{◌≡◌, ◌⊎◌, inl, inr, ℕ, suc, ◌<◌, List, [], ◌∷◌, ◌++◌, length, drop, Option, Some, None, Bool, true, false, cond, ◌||◌}
use Rattle.std.proofs.Common.{nat_eq, nat_lt, not, ◌&&◌, ◌^◌, refl, sym, ap, ◌∙◌, subst, arith, is_some, eq-eqb, ne_eqb}
use Rattle.std.specs.List.{list_any}
use Rattle.std.specs.HashMap.{get}
use Rattle.std.proofs.lemmas.Bool.{cases_eq}
use Rattle.rv64_instr.specs.declared.place.Place.TheVariants.{Register}
use Rattle.mir_func.specs.declared.debug_substitution.OperandPair.{OperandPair}
use Rattle.mir_func.specs.declared.debug_substitution.DebugSubstitution.{DebugSubstitution}
use Rattle.mir_func.specs.declared.item.Item.{Item}
use Rattle.mir_func.specs.declared.item.ItemKind.{ItemKind}
use Rattle.mir_func.specs.declared.item.ItemKind.TheVariants.{Code, Mark, Phi}
use Rattle.mir_func.specs.declared.variable.MarkValue.TheVariants.{Nothing, Constant, At, Pair}
use Rattle.mir_func.specs.Resolve.{is_pair, entry_of, resolve}
use Rattle.pass_trait.specs.Causes.{defines}
use Rattle.pass_trait.specs.Rule.{first_operand}
use Rattle.pass_trait.specs.mir_substitution.Added.{added}
use Rattle.pass_trait.proofs.mir_substitution.Entries.{is_pair-true, is_pair-same}
use Rattle.pass_salvage.specs.declared.above.Above.{Above}
use Rattle.pass_salvage.specs.declared.lookup.Lookup.{Lookup}
use Rattle.pass_salvage.specs.declared.lookup.Lookup.TheVariants.{Index, Walk}
use Rattle.pass_salvage.specs.declared.salvage_action.SalvageAction.TheVariants.{GetsEntry, GetsPhi}
use Rattle.pass_salvage.specs.SalvageAction.{further, last_definition, is_just, asks_for, has_entry, or_fresh, action_by}
use Rattle.pass_salvage.specs.Salvage.{with_number, numbered_at, entry_for}
use Rattle.pass_salvage.specs.Above.{last_question, IsIndexOf, is_past, later, moved, action_unless}
use Rattle.pass_salvage.specs.Lookup.{IsLookupOf}
use Rattle.pass_salvage.proofs.OneMore.{one_more}
use Rattle.pass_salvage.proofs.Found.{last_more}
use Rattle.pass_salvage.proofs.Last.{last_more as one_more_item, last_within, any_past, last_numbered}

-- ---- definitions and questions are last ones that pass a test

pub definition_within : (s : ℕ) (xs : List Item) (d : ℕ) → last_definition s xs ≡ Some d → d < length xs
definition_within s = last_within (last_definition s) (λ (x : Item). defines (Register s) x.kind) refl (λ x xs. refl)

pub question_more : (subs : List DebugSubstitution) (k : ℕ) (xs : List Item) (x : Item) →
    last_question subs k (xs ++ x ∷ []) ≡ cond (asks_for subs k x.kind) (Some (length xs)) (last_question subs k xs)
question_more subs k = one_more_item (last_question subs k) (λ (x : Item). asks_for subs k x.kind) refl (λ x xs. refl)

pub asked_past : (subs : List DebugSubstitution) (k : ℕ) (xs : List Item) (d : ℕ) →
    list_any (λ (x : Item). asks_for subs k x.kind) (drop (suc d) xs) ≡ is_past d (last_question subs k xs)
asked_past subs k = any_past (last_question subs k) (λ (x : Item). asks_for subs k x.kind) refl (λ x xs. refl)

-- ---- one more item

module _ (index index' : Above) (subs : List DebugSubstitution) (xs : List Item) (x : Item) (h : IsIndexOf index subs xs) where
  pub pushed : ((s : ℕ) → get nat_eq index'.definitions s ≡ cond (defines (Register s) x.kind) (Some (length xs)) (get nat_eq index.definitions s)) →
      ((k : ℕ) → get nat_eq index'.questions k ≡ cond (asks_for subs k x.kind) (Some (length xs)) (get nat_eq index.questions k)) →
      IsIndexOf index' subs (xs ++ x ∷ [])
  pushed definitions questions = record {
    definitions = λ s. definitions s ∙ ap (cond (defines (Register s) x.kind) (Some (length xs))) (h.definitions s) ∙ sym (last_more s xs x);
    questions = λ k. questions k ∙ ap (cond (asks_for subs k x.kind) (Some (length xs))) (h.questions k) ∙ sym (question_more subs k xs x);
  }

-- ---- code gets a number

unseen : (s n : ℕ) (k : ItemKind) → defines (Register s) (with_number n k) ≡ defines (Register s) k
unseen s n (Code i m) = refl
unseen s n (Mark v m) = refl
unseen s n (Phi p m) = refl

unasked : (subs : List DebugSubstitution) (k n : ℕ) (kind : ItemKind) → asks_for subs k (with_number n kind) ≡ asks_for subs k kind
unasked subs k n (Code i m) = refl
unasked subs k n (Mark v m) = refl
unasked subs k n (Phi p m) = refl

index_numbered : (index : Above) (subs : List DebugSubstitution) (xs : List Item) (d n : ℕ) → IsIndexOf index subs xs →
    IsIndexOf index subs (numbered_at d n xs)
index_numbered index subs xs d n h = record {
  definitions = λ s. h.definitions s ∙
      sym (last_numbered (last_definition s) (λ (x : Item). defines (Register s) x.kind) refl (λ x ys. refl) n (λ x. unseen s n x.kind) d xs);
  questions = λ k. h.questions k ∙
      sym (last_numbered (last_question subs k) (λ (x : Item). asks_for subs k x.kind) refl (λ x ys. refl) n (λ x. unasked subs k n x.kind) d xs);
}

pub lookup_numbered : (lookup : Lookup) (subs : List DebugSubstitution) (xs : List Item) (d n : ℕ) → IsLookupOf lookup subs xs →
    IsLookupOf lookup subs (numbered_at d n xs)
lookup_numbered (Index index) subs xs d n h = index_numbered index subs xs d n h
lookup_numbered Walk subs xs d n h = tt

-- ---- one more substitution

later_further : (a c : Option ℕ) (p r : Bool) → further (later a c) (p || r) ≡ later (further a p) (further c r)
later_further (Some m) (Some n) p r = ap Some (omega arith)
later_further (Some m) None p true = ap Some (omega arith)
later_further (Some m) None p false = refl
later_further None (Some n) true r = ap Some (omega arith)
later_further None (Some n) false r = refl
later_further None None true true = refl
later_further None None true false = refl
later_further None None false true = refl
later_further None None false false = refl

-- what asks for the number q once operand 0 of k stands for the pair
abbrev asks_after : (z b at_k at_q : Bool) → Bool
asks_after z b u v = cond z false (cond b (u || v) v)

none_after : (z b : Bool) → false ≡ asks_after z b false false
none_after true b = refl
none_after false true = refl
none_after false false = refl

module _ (subs : List DebugSubstitution) (k n o : ℕ) (free : has_entry subs (Some k) 0 ≡ false) (end : has_entry subs (Some n) o ≡ false)
    (apart : is_just (first_operand k) (Some (record { number = n; operand = o })) ≡ false) where
  abbrev pair : OperandPair
  pair = record { number = n; operand = o }

  abbrev more : List DebugSubstitution
  more = subs ++ entry_for k n o ∷ []

  no_entry : (x : Option DebugSubstitution) → is_some x ≡ false → x ≡ None
  no_entry None e = refl
  no_entry (Some x) e = cc

  differ : first_operand k ≡ pair → ⊥
  differ same = (let bad : true ≡ false = sym (is_pair-same (first_operand k)) ∙ ap (is_pair (first_operand k)) same ∙ apart in cc)

  once_more : (q : OperandPair) → ((resolve subs q ≡ Some (first_operand k)) × (resolve more q ≡ Some pair)) ⊎
      ((resolve subs q ≡ Some (first_operand k) → ⊥) × (resolve more q ≡ resolve subs q))
  once_more = one_more subs (entry_for k n o) refl (no_entry (entry_of subs (first_operand k)) free) (no_entry (entry_of subs pair) end) differ

  just_none : (x : Option OperandPair) → (x ≡ Some (first_operand k) → ⊥) → is_just (first_operand k) x ≡ false
  just_none None ne = refl
  just_none (Some r) ne = by_test (is_pair (first_operand k) r) refl where
    by_test : (z : Bool) → is_pair (first_operand k) r ≡ z → z ≡ false
    by_test true t = absurd (ne (ap Some (sym (is_pair-true (first_operand k) r t))))
    by_test false t = refl

  module _ (q : ℕ) where
    abbrev is_k : Bool
    is_k = nat_eq q k

    abbrev is_n : Bool
    is_n = is_just (first_operand q) (Some pair)

    -- a pair that resolves to operand 0 of k
    asks_source : (w : OperandPair) → resolve subs w ≡ Some (first_operand k) → resolve more w ≡ Some pair →
        is_just (first_operand q) (resolve more w) ≡ asks_after is_k is_n (is_just (first_operand k) (resolve subs w))
        (is_just (first_operand q) (resolve subs w))
    asks_source w from to =
        ap (is_just (first_operand q)) to ∙ by_case (cases_eq q k) ∙
        sym (λ i. asks_after is_k is_n (is_just (first_operand k) (from i)) (is_just (first_operand q) (from i))) where
          at_k : is_just (first_operand k) (Some (first_operand k)) ≡ true
          at_k = is_pair-same (first_operand k)

          by_case : (q ≡ k) ⊎ (q ≡ k → ⊥) → is_n ≡ asks_after is_k is_n (is_just (first_operand k) (Some (first_operand k)))
              (is_just (first_operand q) (Some (first_operand k)))
          by_case (inl is) =
              ap (λ (z : ℕ). is_just (first_operand z) (Some pair)) is ∙ apart ∙
              sym (ap (λ (z : Bool). asks_after z is_n (is_just (first_operand k) (Some (first_operand k)))
              (is_just (first_operand q) (Some (first_operand k))))
              (eq-eqb q k is))
          by_case (inr ne) = other is_n ∙ sym
              (λ i. asks_after (ne_eqb q k ne i) is_n (at_k i) (also i)) where
                also : is_just (first_operand q) (Some (first_operand k)) ≡ false
                also = by_test (is_pair (first_operand q) (first_operand k)) refl where
                  by_test : (z : Bool) → is_pair (first_operand q) (first_operand k) ≡ z → z ≡ false
                  by_test true t = absurd (ne (ap (λ (p : OperandPair). p.number) (is_pair-true (first_operand q) (first_operand k) t)))
                  by_test false t = refl

                other : (b : Bool) → b ≡ asks_after false b true false
                other true = refl
                other false = refl

    -- one that resolves to another
    asks_other : (w : OperandPair) → (resolve subs w ≡ Some (first_operand k) → ⊥) → resolve more w ≡ resolve subs w →
        is_just (first_operand q) (resolve more w) ≡ asks_after is_k is_n (is_just (first_operand k) (resolve subs w))
        (is_just (first_operand q) (resolve subs w))
    asks_other w ne same =
        ap (is_just (first_operand q)) same ∙ by_case (cases_eq q k) where
          off : is_just (first_operand k) (resolve subs w) ≡ false
          off = just_none (resolve subs w) ne

          by_case : (q ≡ k) ⊎ (q ≡ k → ⊥) → is_just (first_operand q) (resolve subs w) ≡ asks_after is_k is_n (is_just (first_operand k) (resolve subs w))
              (is_just (first_operand q) (resolve subs w))
          by_case (inl is) =
              ap (λ (z : ℕ). is_just (first_operand z) (resolve subs w)) is ∙ off ∙
              sym (ap (λ (z : Bool). asks_after z is_n (is_just (first_operand k) (resolve subs w)) (is_just (first_operand q) (resolve subs w)))
              (eq-eqb q k is))
          by_case (inr apart_k) =
              other is_n (is_just (first_operand q) (resolve subs w)) ∙
              sym (λ i. asks_after (ne_eqb q k apart_k i) is_n (off i) (is_just (first_operand q) (resolve subs w))) where
                other : (b v : Bool) → v ≡ asks_after false b false v
                other true v = refl
                other false v = refl

    asks_more : (kind : ItemKind) → asks_for more q kind ≡ asks_after is_k is_n (asks_for subs k kind) (asks_for subs q kind)
    asks_more (Mark v (Pair w)) = by_more (once_more w) where
      by_more : ((resolve subs w ≡ Some (first_operand k)) × (resolve more w ≡ Some pair)) ⊎
          ((resolve subs w ≡ Some (first_operand k) → ⊥) × (resolve more w ≡ resolve subs w)) →
          is_just (first_operand q) (resolve more w) ≡ asks_after is_k is_n (is_just (first_operand k) (resolve subs w))
          (is_just (first_operand q) (resolve subs w))
      by_more (inl m) = asks_source w m.0 m.1
      by_more (inr m) = asks_other w m.0 m.1
    asks_more (Mark v Nothing) = none_after is_k is_n
    asks_more (Mark v (Constant c)) = none_after is_k is_n
    asks_more (Mark v (At r)) = none_after is_k is_n
    asks_more (Phi p m) = none_after is_k is_n
    asks_more (Code i m) = none_after is_k is_n

    abbrev last_after : (z b : Bool) → (at_k at_q : Option ℕ) → Option ℕ
    last_after z b u v = cond z None (cond b (later u v) v)

    further_after : (z b : Bool) (u v : Option ℕ) (at_k at_q : Bool) → further (last_after z b u v) (asks_after z b at_k at_q) ≡
        last_after z b (further u at_k) (further v at_q)
    further_after true b u v p r = refl
    further_after false true u v p r = later_further u v p r
    further_after false false u v p r = refl

    none_last : (z b : Bool) → ◌≡◌ {A = Option ℕ} None (last_after z b None None)
    none_last true b = refl
    none_last false true = refl
    none_last false false = refl

    question_after : (xs : List Item) → last_question more q xs ≡ last_after is_k is_n (last_question subs k xs) (last_question subs q xs)
    question_after [] = none_last is_k is_n
    question_after (x ∷ xs) =
        (λ i. further (question_after xs i) (asks_more x.kind i)) ∙
        further_after is_k is_n (last_question subs k xs) (last_question subs q xs) (asks_for subs k x.kind) (asks_for subs q x.kind)

  pub index_substituted : (index index' : Above) (xs : List Item) → index'.definitions ≡ index.definitions →
      ((q : ℕ) → get nat_eq index'.questions q ≡ moved (get nat_eq index.questions) k n o q) → IsIndexOf index subs xs → IsIndexOf index' more xs
  index_substituted index index' xs definitions questions h = record {
    definitions = λ s. ap (λ t. get nat_eq t s) definitions ∙ h.definitions s;
    questions = λ q. questions q ∙ (λ i. last_after q (nat_eq q k) (is_n q) (h.questions k i) (h.questions q i)) ∙ sym (question_after q xs);
  }

-- ---- the table of questions

module _ (f g : ℕ → Option ℕ) (k n o : ℕ) (others : (q : ℕ) → g q ≡ cond (nat_eq q k) None (f q)) where
  off_pair : nat_eq 0 o ≡ false → (q : ℕ) → is_just (first_operand q) (Some (record { number = n; operand = o })) ≡ false
  off_pair e q = ap (λ (z : Bool). nat_eq q n && z) e ∙ by_test (nat_eq q n) where
    by_test : (z : Bool) → z && false ≡ false
    by_test true = refl
    by_test false = refl

  pub moved_off : nat_eq 0 o ≡ false → (q : ℕ) → g q ≡ moved f k n o q
  moved_off e q = others q ∙ sym (ap (λ (z : Bool). cond (nat_eq q k) None (cond z (later (f k) (f q)) (f q))) (off_pair e q))

  module _ (h : ℕ → Option ℕ) (at : ℕ) (found : f k ≡ Some at) (put : (q : ℕ) → h q ≡ cond (nat_eq q n) (later (Some at) (g n)) (g q))
      (first : nat_eq 0 o ≡ true)
      (apart : is_just (first_operand k) (Some (record { number = n; operand = o })) ≡ false) where
    on_pair : (q : ℕ) → is_just (first_operand q) (Some (record { number = n; operand = o })) ≡ nat_eq q n
    on_pair q = ap (λ (z : Bool). nat_eq q n && z) first ∙ by_test (nat_eq q n) where
      by_test : (z : Bool) → z && true ≡ z
      by_test true = refl
      by_test false = refl

    k_n : nat_eq k n ≡ false
    k_n = sym (on_pair k) ∙ apart

    n_k : nat_eq n k ≡ false
    n_k = ne_eqb n k (λ e. (let bad : true ≡ false = sym (eq-eqb k n (sym e)) ∙ k_n in cc))

    at_n : g n ≡ f n
    at_n = others n ∙ ap (λ (z : Bool). cond z None (f n)) n_k

    moved_at : (q : ℕ) → (q ≡ k) ⊎ (q ≡ k → ⊥) → (q ≡ n) ⊎ (q ≡ n → ⊥) → h q ≡ cond (nat_eq q k) None (cond (nat_eq q n) (later (f k) (f q)) (f q))
    moved_at q (inl e) other =
        let off : nat_eq q n ≡ false = ap (λ (z : ℕ). nat_eq z n) e ∙ k_n in
        let on : nat_eq q k ≡ true = eq-eqb q k e in
        put q ∙ ap (λ (z : Bool). cond z (later (Some at) (g n)) (g q)) off ∙ others q ∙ ap (λ (z : Bool). cond z None (f q)) on ∙
        sym (ap (λ (z : Bool). cond z None (cond (nat_eq q n) (later (f k) (f q)) (f q))) on)
    moved_at q (inr ne) (inl e) =
        let off : nat_eq q k ≡ false = ne_eqb q k ne in
        let on : nat_eq q n ≡ true = eq-eqb q n e in
        put q ∙ ap (λ (z : Bool). cond z (later (Some at) (g n)) (g q)) on ∙ (λ i. later (sym found i) (at_n i)) ∙ ap (λ (z : ℕ). later (f k) (f z)) (sym e) ∙
        sym ((λ i. cond (off i) None (cond (nat_eq q n) (later (f k) (f q)) (f q))) ∙ ap (λ (z : Bool). cond z (later (f k) (f q)) (f q)) on)
    moved_at q (inr ne) (inr other) =
        let off : nat_eq q k ≡ false = ne_eqb q k ne in
        let not_n : nat_eq q n ≡ false = ne_eqb q n other in
        put q ∙ ap (λ (z : Bool). cond z (later (Some at) (g n)) (g q)) not_n ∙ others q ∙ ap (λ (z : Bool). cond z None (f q)) off ∙
        sym ((λ i. cond (off i) None (cond (nat_eq q n) (later (f k) (f q)) (f q))) ∙ ap (λ (z : Bool). cond z (later (f k) (f q)) (f q)) not_n)

    moved_to : (q : ℕ) → h q ≡ moved f k n o q
    moved_to q =
        moved_at q (cases_eq q k) (cases_eq q n) ∙ sym (ap (λ (z : Bool). cond (nat_eq q k) None (cond z (later (f k) (f q)) (f q))) (on_pair q))

pub moved_later : (f g h : ℕ → Option ℕ) (k n o at : ℕ) → ((q : ℕ) → g q ≡ cond (nat_eq q k) None (f q)) → f k ≡ Some at →
    ((q : ℕ) → h q ≡ cond (nat_eq q n) (later (Some at) (g n)) (g q)) → nat_eq 0 o ≡ true →
    is_just (first_operand k) (Some (record { number = n; operand = o })) ≡ false → (q : ℕ) → h q ≡ moved f k n o q
moved_later f g h k n o at others found put first apart = moved_to f g k n o others h at found put first apart

-- ---- the way by an operand

bars : (l a h b : Bool) → l && not a && not h && not b ≡ l && not h && not (a || b)
bars false a h b = refl
bars true true true b = refl
bars true true false b = refl
bars true false true b = refl
bars true false false b = refl

pub way_is : (removed : List ℕ) (subs : List DebugSubstitution) (fresh k d : ℕ) (number operand : Option ℕ) (behind : List Item) →
    action_by removed subs fresh k d number operand behind ≡
    action_unless (list_any (nat_eq d) removed || list_any (λ (x : Item). asks_for subs k x.kind) behind) subs fresh d number operand
way_is removed subs fresh k d number None behind = refl
way_is removed subs fresh k d number (Some o) behind =
    ap (λ (z : Bool). cond z (GetsEntry d o (or_fresh fresh number)) GetsPhi)
    (bars (nat_lt o (2 ^ 32)) (list_any (nat_eq d) removed) (has_entry subs number o) (list_any (λ (x : Item). asks_for subs k x.kind) behind))

-- ---- the entry is added

or_false : (a b : Bool) → a || b ≡ false → (a ≡ false) × (b ≡ false)
or_false true b e = cc
or_false false b e = (refl, e)

-- the index of the items once the entry is added, which no other meets
pub index_added : (index index' : Above) (subs subs' : List DebugSubstitution) (e : DebugSubstitution) (k n o : ℕ) (met : Bool) (xs : List Item) →
    has_entry subs (Some k) 0 ≡ false →
    met ≡ (has_entry subs (Some n) o || is_just (first_operand k) (Some (record { number = n; operand = o }))) → met ≡ false → e ≡ entry_for k n o →
    subs' ≡ added subs e → index'.definitions ≡ index.definitions → ((q : ℕ) → get nat_eq index'.questions q ≡ moved (get nat_eq index.questions) k n o q) →
    IsIndexOf index subs xs → IsIndexOf index' subs' xs
index_added index index' subs subs' e k n o met xs free meets apart is made definitions questions h =
    let both = or_false (has_entry subs (Some n) o) (is_just (first_operand k) (Some (record { number = n; operand = o }))) (sym meets ∙ apart) in
    let entries : subs' ≡ subs ++ entry_for k n o ∷ [] =
    made ∙ ap (added subs) is ∙ ap (λ (z : Bool). cond z subs (subs ++ entry_for k n o ∷ [])) free in
    subst (λ (es : List DebugSubstitution). IsIndexOf index' es xs) (sym entries)
    (index_substituted subs k n o free both.0 both.1 index index' xs definitions questions h)
