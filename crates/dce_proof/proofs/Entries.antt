-- The substitutions that are added: each is for a number that nothing has any more, and leads to a number that code has.
use Rattle.std.proofs.Common.{◌≡◌, ◌⊎◌, inl, inr, ℕ, zero, suc, ◌+◌, ◌<◌, List, [], ◌∷◌, ◌++◌, length, drop, get_or, All, Contains}
use Rattle.std.proofs.Common.{Option, Some, None, Bool, true, false, cond, not, is_some, slice_get, append-nil, refl, sym, ap, ◌∙◌, subst, arith}
use Rattle.std.specs.List.{list_any}
use Rattle.std.specs.Prelude.{nat_lt, ◌^◌, nat_eq}
use Rattle.std.proofs.lemmas.Bool.{cases_eq}
use Rattle.std.proofs.lemmas.List.{append_assoc, length-append}
use Rattle.std.proofs.lemmas.List.Elements.{All-nil, All-cons, All-head, All-tail, All-append, Contains-append_right}
use Rattle.std.proofs.lemmas.Option.{slice_get_within, get_or_from_slice_get}
use Rattle.rv64_instr.specs.Instruction.{Instruction}
use Rattle.mir_func.specs.declared.debug_substitution.DebugSubstitution.{DebugSubstitution}
use Rattle.mir_func.specs.declared.debug_substitution.OperandPair.{OperandPair}
use Rattle.mir_func.specs.declared.position.Origin.{Origin}
use Rattle.mir_func.specs.declared.location.Loc.{Loc}
use Rattle.mir_func.specs.declared.block.Block.{Block}
use Rattle.mir_func.specs.declared.item.Item.{Item}
use Rattle.mir_func.specs.declared.item.ItemKind.{ItemKind}
use Rattle.mir_func.specs.declared.item.ItemKind.TheVariants.{Code, Mark, Phi}
use Rattle.mir_func.specs.Function.{Function}
use Rattle.mir_func.specs.Resolve.{is_pair, entry_of}
use Rattle.mir_func.specs.Sound.{items_of, code_number}
use Rattle.pass_trait.specs.Rule.{item, first_operand}
use Rattle.mir_substitution.proofs.Entries.{entry_of-push, is_pair-true}
use Rattle.pass_salvage.specs.declared.salvage_action.SalvageAction.{SalvageAction}
use Rattle.pass_salvage.specs.declared.salvage_action.SalvageAction.TheVariants.{HasEntry, GetsEntry, GetsPhi}
use Rattle.pass_salvage.specs.SalvageAction.{or_fresh, has_entry, asks_for, salvage_action}
use Rattle.pass_salvage.specs.Salvage.{with_number, numbered_at, entry_for, entries_for, above_after}
use Rattle.pass_salvage.proofs.Chosen.{IsEntered, entered}
use Rattle.dce_round.proofs.pass_edits.Numbers.{IsUnlike, AreUnlike, all_first, all_second, not_unlike, HasCode}
use Rattle.dce_round.proofs.pass_edits.Others.{flat_unlike, Others, others_of}
use Rattle.dce_round.proofs.pass_edits.Under.{KindUnder, no_entry}
use Rattle.dce_round.proofs.pass_edits.Found.{last_two, not_is}
use Rattle.dce_salvage.specs.declared.salvage_numbers.Copied.{Copied}
use Rattle.dce_salvage.specs.SalvageNumbers.{phi_by_own, added_by_salvage}
use Rattle.pass_salvage.specs.SalvageAction.{going_from}
use Rattle.pass_salvage.proofs.Placed.{above_length}
use Rattle.dce_round.proofs.dce_salvage_proof.Copy.{Ready}
use Rattle.dce_proof.proofs.Lines.{giver_stays, number_other, number_same, get_left}

-- code that stays has it, above an index
abbrev pub HasAbove : (dead : List Bool) → List Item → (n m : ℕ) → Type 0
HasAbove dead xs n m = (d : ℕ) × (y : Item) × (d < n) × (get_or dead d false ≡ false) × (slice_get xs d ≡ Some y) × (code_number y.kind ≡ Some m)

abbrev N : ℕ → Item → Type 0
N k x = IsUnlike k x.kind

contains_get : (xs : List Item) (d : ℕ) (y : Item) → slice_get xs d ≡ Some y → Contains xs y
contains_get xs d y at = (d, slice_get_within xs d y at, get_or_from_slice_get xs d y y at)

unlike_numbered : (k d n : ℕ) (xs : List Item) → (k ≡ n → ⊥) → AreUnlike k xs → AreUnlike k (numbered_at d n xs)
unlike_numbered k d n [] ne h = h
unlike_numbered k zero n (x ∷ xs) ne h =
    All-cons (λ (y : Item). IsUnlike k y.kind) (record x { kind = with_number n x.kind }) xs
    (by_kind x.kind (All-head (λ (y : Item). IsUnlike k y.kind) x xs h)) (All-tail (λ (y : Item). IsUnlike k y.kind) x xs h) where
      by_kind : (z : ItemKind) → IsUnlike k z → IsUnlike k (with_number n z)
      by_kind (Code i m) u = λ j e same. (let is : n ≡ j = cc in ne (same ∙ sym is))
      by_kind (Mark v m) u = u
      by_kind (Phi p m) u = u
unlike_numbered k (suc d) n (x ∷ xs) ne h =
    All-cons (λ (y : Item). IsUnlike k y.kind) x (numbered_at d n xs) (All-head (λ (y : Item). IsUnlike k y.kind) x xs h)
    (unlike_numbered k d n xs ne (All-tail (λ (y : Item). IsUnlike k y.kind) x xs h))

drop_zero : (xs : List Item) → drop 0 xs ≡ xs
drop_zero [] = refl
drop_zero (x ∷ xs) = refl

drop_past : (xs ys : List Item) (n : ℕ) → length xs ≡ n → drop n (xs ++ ys) ≡ ys
drop_past [] ys zero e = drop_zero ys
drop_past [] ys (suc n) e = absurd (omega (arith, e))
drop_past (x ∷ xs) ys zero e = absurd (omega (arith, e))
drop_past (x ∷ xs) ys (suc n) e = drop_past xs ys n (omega (arith, e))

none_of : (x : Option DebugSubstitution) → is_some x ≡ false → x ≡ None
none_of None h = refl
none_of (Some y) h = cc

-- an item with a number, and the same with another
numbered_code : (m j : ℕ) (y : Item) (i : Instruction) (own : Option ℕ) (o : Origin) (l : Loc) (fresh : ℕ) → y ≡ item (Code i own) o l →
    m ≡ or_fresh fresh own → code_number y.kind ≡ Some j → m ≡ j
numbered_code m j y i None o l fresh is number code =
    let bad : None ≡ Some j = sym (ap (λ (z : Item). code_number z.kind) is) ∙ code in cc
numbered_code m j y i (Some n) o l fresh is number code =
    let e : Some n ≡ Some j = sym (ap (λ (z : Item). code_number z.kind) is) ∙ code in
    let same : n ≡ j = cc in
    number ∙ same

module _ (f : Function) (fs : List Block) (id source_end : ℕ) (gs : List Block) (dead : List Bool) where
  -- what holds of an entry that was added, where the items from an index on are done
  pub record Stands (items : List Item) (subs : List DebugSubstitution) (n : ℕ) (e : DebugSubstitution) : Type 0 where
    pub whole : (e.src.operand ≡ 0) × (e.subreg ≡ 0)
    pub gone : AreUnlike e.src.number (items_of fs ++ (items ++ items_of gs))
    pub given : HasCode e.dst.number (drop n items ++ items_of gs) ⊎ HasAbove dead items n e.dst.number
    pub end : entry_of subs e.dst ≡ None

  -- ---- an item that stays as it is

  pub stand_on : (items : List Item) (subs : List DebugSubstitution) (n : ℕ) (x : Item) → drop n items ≡ x ∷ drop (suc n) items → slice_get items n ≡ Some x →
      (e : DebugSubstitution) →
      Stands items subs (suc n) e → Stands items subs n e
  stand_on items subs n x first at e w = record { whole = w.whole; gone = w.gone; given = by_given w.given; end = w.end } where
    front : (y : Item) → Contains (x ∷ (drop (suc n) items ++ items_of gs)) y → Contains (drop n items ++ items_of gs) y
    front y k = subst (λ (zs : List Item). Contains (zs ++ items_of gs) y) (sym first) k

    by_given : HasCode e.dst.number (drop (suc n) items ++ items_of gs) ⊎ HasAbove dead items (suc n) e.dst.number →
        HasCode e.dst.number (drop n items ++ items_of gs) ⊎ HasAbove dead items n e.dst.number
    by_given (inl (y, k, c)) = inl (y, front y (suc k.0, (let lt = k.1 in omega (arith, lt)), k.2), c)
    by_given (inr (d, y, lt, stays, there, c)) = elim (cases_eq d n) [
      | inl same ↦ (
          let s : Some x ≡ Some y = sym at ∙ ap (slice_get items) (sym same) ∙ there in
          let is : x ≡ y = cc in
          inl (y, front y (0, omega arith, is), c)
          )
      | inr ne ↦ inr (d, y, omega (arith, lt, ne), stays, there, c)
    ]

  -- ---- a copy loses its number

  module _ (n k s : ℕ) (own : Bool) (up : List Item) (i : Instruction) (o : Origin) (l : Loc) (down : List Item) (subs : List DebugSubstitution) (fresh : ℕ)
      (long : length up ≡ n) (r : Ready f fs id source_end gs (up ++ item (Code i (Some k)) o l ∷ down) subs fresh) (goes : get_or dead n false ≡ true) where
    abbrev copy : Item
    copy = item (Code i (Some k)) o l

    abbrev bare : Item
    bare = item (Code i None) o l

    abbrev c : Copied
    c = record { number = k; source = s; own = own }

    far : Others k fs up down gs
    far = others_of f fs id source_end gs k up (item (Code i (Some k)) o l) down r.sound.numbers refl

    record Parts (j : ℕ) : Type 0 where
      above : AreUnlike j (items_of fs)
      first : AreUnlike j up
      here : IsUnlike j (Code i (Some k))
      later : AreUnlike j down
      behind : AreUnlike j (items_of gs)

    parts : (j : ℕ) → AreUnlike j (items_of fs ++ ((up ++ item (Code i (Some k)) o l ∷ down) ++ items_of gs)) → Parts j
    parts j h =
        let one = all_second (N j) (items_of fs) ((up ++ copy ∷ down) ++ items_of gs) h in
        let two = all_first (N j) (up ++ copy ∷ down) (items_of gs) one in
        let three = all_second (N j) up (copy ∷ down) two in
        record {
          above = all_first (N j) (items_of fs) ((up ++ copy ∷ down) ++ items_of gs) h;
          first = all_first (N j) up (copy ∷ down) two;
          here = All-head (N j) copy down three;
          later = All-tail (N j) copy down three;
          behind = all_second (N j) (up ++ copy ∷ down) (items_of gs) one;
        }

    bare_unlike : (j : ℕ) → IsUnlike j (Code i None)
    bare_unlike j = λ m e same. cc

    together : (j : ℕ) (up' put : List Item) → AreUnlike j (items_of fs) → AreUnlike j up' → AreUnlike j put → AreUnlike j down → AreUnlike j (items_of gs) →
        AreUnlike j (items_of fs ++ ((up' ++ (put ++ item (Code i None) o l ∷ down)) ++ items_of gs))
    together j up' put a b p d g =
        All-append (N j) (items_of fs) ((up' ++ (put ++ bare ∷ down)) ++ items_of gs) a
        (All-append (N j) (up' ++ (put ++ bare ∷ down)) (items_of gs)
        (All-append (N j) up' (put ++ bare ∷ down) b (All-append (N j) put (bare ∷ down) p (All-cons (N j) bare down (bare_unlike j) d))) g)

    put_unlike : (j : ℕ) (w : SalvageAction) → IsUnlike j (Code i (Some k)) → AreUnlike j (added_by_salvage w (record { number = k; source = s; own = own }) o)
    put_unlike j HasEntry h = All-nil (N j)
    put_unlike j (GetsEntry d p m) h = All-nil (N j)
    put_unlike j GetsPhi h = by_own own where
      by_own : (z : Bool) → AreUnlike j (phi_by_own z k s o ∷ [])
      by_own true = All-cons (N j) (phi_by_own true k s o) [] (λ m e same. h m e same) (All-nil (N j))
      by_own false = All-cons (N j) (phi_by_own false k s o) [] (λ m e same. h m e same) (All-nil (N j))

    -- a number that isn't above and is less than the fresh one isn't what code gets
    other : (j d p m : ℕ) → IsEntered (going_from 0 dead) subs fresh k s up d p m → AreUnlike j up → j < fresh → j ≡ m → ⊥
    other j d p m e h lt same = by_own e.own refl e.number where
      giver : (z : Option ℕ) → e.own ≡ z → slice_get up d ≡ Some (item (Code e.i z) e.origin e.loc)
      giver z is = e.stands ∙ (λ t. Some (item (Code e.i (is t)) e.origin e.loc))

      by_own : (z : Option ℕ) → e.own ≡ z → m ≡ or_fresh fresh z → ⊥
      by_own None is number = omega (arith, same, number, lt)
      by_own (Some q) is number =
          not_unlike j up h (
            item (Code e.i (Some q)) e.origin e.loc,
            contains_get up d (item (Code e.i (Some q)) e.origin e.loc) (giver (Some q) is),
            ap Some (sym number ∙ sym same),
          )

    under_copy : k < fresh
    under_copy =
        All-head (λ (x : Item). KindUnder fresh x.kind) copy down
        (all_second (λ (x : Item). KindUnder fresh x.kind) up (copy ∷ down) r.in_items)

    -- the items above, and what is known of numbers there
    up_unlike : (j : ℕ) (w : SalvageAction) → salvage_action (going_from 0 dead) subs fresh k s up ≡ w → AreUnlike j up → j < fresh →
        AreUnlike j (above_after w up)
    up_unlike j HasEntry is h lt = h
    up_unlike j GetsPhi is h lt = h
    up_unlike j (GetsEntry d p m) is h lt =
        unlike_numbered j d m up (other j d p m (entered (going_from 0 dead) subs fresh k s up d p m is) h lt) h

    up_has : (m : ℕ) (w : SalvageAction) → salvage_action (going_from 0 dead) subs fresh k s up ≡ w → (rest : List Item) → (q : ℕ) (y : Item) → q < n →
        slice_get up q ≡ Some y → code_number y.kind ≡ Some m → (z : Item) × (slice_get (above_after w up ++ rest) q ≡ Some z) × (code_number z.kind ≡ Some m)
    up_has m w is rest q y lt at code = by_way w is where
      left : (ys : List Item) → length ys ≡ length up → slice_get (ys ++ rest) q ≡ slice_get ys q
      left ys e = get_left ys rest q (omega (arith, e, long, lt))

      by_way : (w : SalvageAction) → salvage_action (going_from 0 dead) subs fresh k s up ≡ w →
          (z : Item) × (slice_get (above_after w up ++ rest) q ≡ Some z) × (code_number z.kind ≡ Some m)
      by_way HasEntry is = (y, left up refl ∙ at, code)
      by_way GetsPhi is = (y, left up refl ∙ at, code)
      by_way (GetsEntry d p a) is = elim (cases_eq q d) [
        | inl same ↦ (
            let e = entered (going_from 0 dead) subs fresh k s up d p a is in
            let s : Some y ≡ Some (item (Code e.i e.own) e.origin e.loc) = sym at ∙ ap (slice_get up) same ∙ e.stands in
            let y_is : y ≡ item (Code e.i e.own) e.origin e.loc = cc in (
              item (Code e.i (Some a)) e.origin e.loc,
              left (numbered_at d a up) (above_length (GetsEntry d p a) up) ∙ ap (slice_get (numbered_at d a up)) same ∙
                  number_same d a up (item (Code e.i e.own) e.origin e.loc) e.stands,
              ap Some (numbered_code a m y e.i e.own e.origin e.loc fresh y_is e.number code),
            )
            )
        | inr ne ↦ (y, left (numbered_at d a up) (above_length (GetsEntry d p a) up) ∙ number_other d a up q ne ∙ at, code)
      ]

    abbrev after : SalvageAction → List Item
    after w = above_after w up ++ (added_by_salvage w (record { number = k; source = s; own = own }) o ++ item (Code i None) o l ∷ down)

    rest_after : (w : SalvageAction) → drop n (after w) ≡ added_by_salvage w (record { number = k; source = s; own = own }) o ++ item (Code i None) o l ∷ down
    rest_after w = drop_past (above_after w up) (added_by_salvage w (record { number = k; source = s; own = own }) o ++ item (Code i None) o l ∷ down) n
        (above_length w up ∙ long)

    rest_before : drop (suc n) (up ++ item (Code i (Some k)) o l ∷ down) ≡ down
    rest_before =
        ap (λ (zs : List Item). drop (suc n) zs) (sym (append_assoc up (copy ∷ []) down)) ∙
        drop_past (up ++ copy ∷ []) down (suc n) (let e = length-append up (copy ∷ []) in omega (arith, e, long))

    push_none : (m p : ℕ) (q : OperandPair) → entry_of subs (first_operand k) ≡ None → entry_of subs q ≡ None → (k ≡ q.number → ⊥) →
        entry_of (subs ++ entry_for k m p ∷ []) q ≡ None
    push_none m p q source none ne =
        entry_of-push subs (entry_for k m p) q source ∙ by_test (is_pair (first_operand k) q) refl where
          by_test : (z : Bool) → is_pair (first_operand k) q ≡ z → cond z (Some (entry_for k m p)) (entry_of subs q) ≡ None
          by_test true is = absurd (ne (ap (λ (a : OperandPair). a.number) (is_pair-true (first_operand k) q is)))
          by_test false is = none

    -- the entries that were there
    pub old_stand : (w : SalvageAction) → salvage_action (going_from 0 dead) subs fresh k s up ≡ w → (e : DebugSubstitution) → e.src.number < fresh →
        Stands (up ++ item (Code i (Some k)) o l ∷ down) subs (suc n) e → Stands (after w) (subs ++ entries_for w k) n e
    old_stand w is e lt h = record {
      whole = h.whole;
      gone = together e.src.number (above_after w up) (added_by_salvage w c o) p.above (up_unlike e.src.number w is p.first lt)
          (put_unlike e.src.number w p.here)
          p.later p.behind;
      given = given_after;
      end = by_way w is;
    } where
      p : Parts e.src.number
      p = parts e.src.number h.gone

      -- code that has the number isn't the copy
      apart : k ≡ e.dst.number → ⊥
      apart same = by_given h.given where
        by_given : HasCode e.dst.number (drop (suc n) (up ++ copy ∷ down) ++ items_of gs) ⊎ HasAbove dead (up ++ copy ∷ down) (suc n) e.dst.number → ⊥
        by_given (inl w) =
            not_unlike k (down ++ items_of gs) (All-append (N k) down (items_of gs) far.down (flat_unlike k gs far.behind))
            (subst (λ (m : ℕ). HasCode m (down ++ items_of gs)) (sym same)
            (subst (λ (zs : List Item). HasCode e.dst.number (zs ++ items_of gs)) rest_before w))
        by_given (inr (d, y, lt, stays, at, code)) = elim (cases_eq d n) [
          | inl is ↦ (let bad : false ≡ true = sym stays ∙ ap (λ (z : ℕ). get_or dead z false) is ∙ goes in cc)
          | inr ne ↦ not_unlike k up far.up
              (y, contains_get up d y (sym (get_left up (copy ∷ down) d (omega (arith, lt, ne, long))) ∙ at), code ∙ ap Some (sym same))
        ]

      given_after : HasCode e.dst.number (drop n (after w) ++ items_of gs) ⊎ HasAbove dead (after w) n e.dst.number
      given_after = by_given h.given where
        in_rest : (y : Item) → Contains (down ++ items_of gs) y → Contains (drop n (after w) ++ items_of gs) y
        in_rest y k' =
            subst (λ (zs : List Item). Contains (zs ++ items_of gs) y) (sym (rest_after w))
            (subst (λ (zs : List Item). Contains zs y) (sym (append_assoc (added_by_salvage w c o) (bare ∷ down) (items_of gs)))
            (Contains-append_right (added_by_salvage w c o) (bare ∷ (down ++ items_of gs)) y (suc k'.0, (let lt = k'.1 in omega (arith, lt)), k'.2)))

        by_given : HasCode e.dst.number (drop (suc n) (up ++ copy ∷ down) ++ items_of gs) ⊎ HasAbove dead (up ++ copy ∷ down) (suc n) e.dst.number →
            HasCode e.dst.number (drop n (after w) ++ items_of gs) ⊎ HasAbove dead (after w) n e.dst.number
        by_given (inl v) =
            let u = subst (λ (zs : List Item). HasCode e.dst.number (zs ++ items_of gs)) rest_before v in
            inl (u.0, in_rest u.0 u.1, u.2)
        by_given (inr (d, y, lt, stays, at, code)) = elim (cases_eq d n) [
          | inl is ↦ (let bad : false ≡ true = sym stays ∙ ap (λ (z : ℕ). get_or dead z false) is ∙ goes in cc)
          | inr ne ↦ (
              let at_up = sym (get_left up (copy ∷ down) d (omega (arith, lt, ne, long))) ∙ at in
              let u = up_has e.dst.number w is (added_by_salvage w c o ++ bare ∷ down) d y (omega (arith, lt, ne)) at_up code in
              inr (d, u.0, omega (arith, lt, ne), stays, u.1, u.2)
              )
        ]

      by_way : (w : SalvageAction) → salvage_action (going_from 0 dead) subs fresh k s up ≡ w → entry_of (subs ++ entries_for w k) e.dst ≡ None
      by_way HasEntry is = ap (λ (es : List DebugSubstitution). entry_of es e.dst) (append-nil subs) ∙ h.end
      by_way GetsPhi is = ap (λ (es : List DebugSubstitution). entry_of es e.dst) (append-nil subs) ∙ h.end
      by_way (GetsEntry d q m) is =
          let v = entered (going_from 0 dead) subs fresh k s up d q m is in
          push_none m q e.dst (none_of (entry_of subs (first_operand k)) v.none) h.end apart

    -- the one that is added
    pub new_stands : (d p m : ℕ) → salvage_action (going_from 0 dead) subs fresh k s up ≡ GetsEntry d p m →
        Stands (after (GetsEntry d p m)) (subs ++ entry_for k m p ∷ []) n (entry_for k m p)
    new_stands d p m is = record {
      whole = (refl, refl);
      gone = together k (numbered_at d m up) [] (flat_unlike k fs far.above) (unlike_numbered k d m up apart far.up) (All-nil (N k)) far.down
          (flat_unlike k gs far.behind);
      given = inr (d, item (Code e.i (Some m)) e.origin e.loc, inside, giver_stays dead subs fresh k s up d p m e, there, refl);
      end = push_none m p (record { number = m; operand = p }) (none_of (entry_of subs (first_operand k)) e.none) (target_none e.own refl e.number) apart;
    } where
      e : IsEntered (going_from 0 dead) subs fresh k s up d p m
      e = entered (going_from 0 dead) subs fresh k s up d p m is

      apart : k ≡ m → ⊥
      apart same = other k d p m (entered (going_from 0 dead) subs fresh k s up d p m is) far.up under_copy same

      inside : d < n
      inside = let lt = slice_get_within up d (item (Code e.i e.own) e.origin e.loc) e.stands in omega (arith, lt, long)

      there : slice_get (after (GetsEntry d p m)) d ≡ Some (item (Code e.i (Some m)) e.origin e.loc)
      there =
          let lt = slice_get_within up d (item (Code e.i e.own) e.origin e.loc) e.stands in
          let same = above_length (GetsEntry d p m) up in
          get_left (numbered_at d m up) (bare ∷ down) d (omega (arith, lt, same)) ∙ number_same d m up (item (Code e.i e.own) e.origin e.loc) e.stands

      target_none : (z : Option ℕ) → e.own ≡ z → m ≡ or_fresh fresh z → entry_of subs (record { number = m; operand = p }) ≡ None
      target_none None own_is number = no_entry fresh m p (omega (arith, number)) subs r.in_entries
      target_none (Some q) own_is number =
          let tests = last_two (nat_lt p (2 ^ 32)) (not (list_any (nat_eq d) (going_from 0 dead))) (not (has_entry subs e.own p))
          (not (list_any (λ x. asks_for subs k x.kind) (drop (suc d) up))) e.may in
          ap (λ (w : ℕ). entry_of subs (record { number = w; operand = p })) number ∙
          none_of (entry_of subs (record { number = q; operand = p }))
          (ap (λ (z : Option ℕ). has_entry subs z p) (sym own_is) ∙ not_is (has_entry subs e.own p) tests.0)
