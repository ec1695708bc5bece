-- Ends that are written anew: what their items ask for, and how they end.
use Rattle.std.proofs.Common.{◌≡◌, ℕ, List, [], ◌∷◌, All, Contains, Option, Some, None, Bool, true, false, cond, nat_eq, refl, sym, ap, ◌∙◌, subst}
use Rattle.std.proofs.Common.{inl, inr, arith}
use Rattle.std.proofs.lemmas.List.Elements.{All-head, All-tail, All-cons}
use Rattle.rv64_instr.specs.declared.operand.Operand.TheVariants.{Block as OfBlock}
use Rattle.mir_func.specs.declared.block.Block.{Block}
use Rattle.mir_func.specs.declared.exit.Exit.{Exit}
use Rattle.mir_func.specs.declared.exit.Exit.TheVariants.{Onward, Perhaps, Always, Final}
use Rattle.mir_func.specs.declared.item.Item.{Item}
use Rattle.mir_func.specs.declared.location.Loc.{Loc}
use Rattle.mir_func.specs.declared.location.Loc.TheVariants.{Absent}
use Rattle.mir_func.specs.declared.object.Object.{Object}
use Rattle.mir_func.specs.declared.position.Pos.{Pos}
use Rattle.mir_func.specs.declared.position.Origin.{Origin}
use Rattle.mir_func.specs.declared.position.Origin.TheVariants.{Before}
use Rattle.mir_func.specs.Exits.{exit_of, IsAlways, Leaves}
use Rattle.mir_func.specs.Sound.{TargetsIn, SlotsIn, PassedIn, ObjectsIn, LeavesPointer, IsNotPointer, OriginIn, IsJumpAtMost, MayFollow, EndsWell, Closes}
use Rattle.mir_func.specs.Sound.{KindPassesFirst}
use Rattle.fold_targets.specs.Leads.{always_to}
use Rattle.fold_rule.specs.Turned.{sent, turned, made_jump}
use Rattle.fold_rule.specs.Tails.{first_of, else_way, ways_by, ways_of, is_number, if_needed, jump_at_end, jump_for_branch, branch_tail, plain_tail}
use Rattle.fold_rule.specs.Tails.{branch_tail_to, tail_by, rewritten}
use Rattle.fold_rule.specs.Reached.{LeadTo}
use Rattle.fold_rule_proof.proofs.Rows.{Leads, GoesIn, kind_targets, leading_slots, leading_first, leading_objects, sent_pointer, turned_pointer, sent_branch}
use Rattle.fold_rule_proof.proofs.Rows.{PassesIn, passes_in, sent_passes, turned_passes}
use Rattle.fold_rule_proof.proofs.Rows.{turned_branch, sent_jump}

pub none_in : {X : Type 0} (P : X → Type 0) → All P []
none_in P k d lt = absurd (omega (arith, lt))

-- what is asked of an item but for its target
pub record IsPlain (slots : List ℕ) (objects : List Object) (b : Block) (i : Item) : Type 0 where
  pub slot : SlotsIn slots i.kind
  pub passed : KindPassesFirst slots i.kind
  pub object : ObjectsIn objects i.kind
  pub pointer : LeavesPointer i.kind
  pub origin : OriginIn b i.origin

-- what is asked of an item
pub record IsGood (ids slots : List ℕ) (objects : List Object) (b : Block) (i : Item) : Type 0 where
  pub target : TargetsIn ids i.kind
  pub plain : IsPlain slots objects b i

pub always_some : (e : Exit) → IsAlways e → (n : ℕ) × (e ≡ Always n)
always_some (Always n) h = (n, refl)
always_some (Perhaps n) h = absurd h
always_some Onward h = absurd h
always_some Final h = absurd h

-- a block's way after a conditional branch
pub goes_else : (x : Item) (t : ℕ) (xs : List Item) (fall : Option ℕ) → exit_of x.kind ≡ Perhaps t → IsJumpAtMost xs → (fall ≡ None → Closes (x ∷ xs)) →
    (m : ℕ) × (else_way (first_of xs) fall ≡ Some m)
goes_else x t [] None e jumps onto = absurd (subst Leaves e (onto refl))
goes_else x t [] (Some m) e jumps onto = (m, refl)
goes_else x t (j ∷ []) fall e jumps onto = let w = always_some (exit_of j.kind) jumps in (w.0, ap always_to w.1)
goes_else x t (j ∷ y ∷ ys) fall e jumps onto = absurd jumps

module _ (ids slots : List ℕ) (objects : List Object) (b : Block) where
  abbrev pub Good : Item → Type 0
  Good i = IsGood ids slots objects b i

  abbrev pub Plain : Item → Type 0
  Plain i = IsPlain slots objects b i

  good_left : (x : Item) (e : Exit) → exit_of x.kind ≡ e → GoesIn ids e → Plain x → Good x
  good_left x e h goes p = record { target = kind_targets ids x.kind (subst (GoesIn ids) (sym h) goes); plain = p }

  good_leading : (x : Item) (e : Exit) → exit_of x.kind ≡ e → GoesIn ids e → Leads e → LeavesPointer x.kind → PassesIn slots x.kind → OriginIn b x.origin →
      Good x
  good_leading x e h goes leads pointer passes origin = record {
    target = kind_targets ids x.kind (subst (GoesIn ids) (sym h) goes);
    plain = record {
      slot = leading_slots slots x.kind (subst Leads (sym h) leads) passes;
      passed = leading_first slots x.kind (subst Leads (sym h) leads);
      object = leading_objects objects x.kind (subst Leads (sym h) leads);
      pointer = pointer;
      origin = origin;
    };
  }

  good_sent : (x : Item) (t n : ℕ) → exit_of x.kind ≡ Perhaps t → Contains ids n → Plain x → Good (sent n x)
  good_sent x t n e has p = good_leading (sent n x) (Perhaps n) (sent_branch x.kind t n e) has tt (sent_pointer x.kind n p.pointer)
      (sent_passes slots x.kind n (passes_in slots x.kind p.slot)) p.origin

  good_turned : (x : Item) (t n : ℕ) → exit_of x.kind ≡ Perhaps t → Contains ids n → Plain x → Good (turned n x)
  good_turned x t n e has p = good_leading (turned n x) (Perhaps n) (turned_branch x.kind t n e) has tt (turned_pointer x.kind n p.pointer)
      (turned_passes slots x.kind n (passes_in slots x.kind p.slot)) p.origin

  good_sent_jump : (x : Item) (t n : ℕ) → exit_of x.kind ≡ Always t → Contains ids n → Plain x → Good (sent n x)
  good_sent_jump x t n e has p = good_leading (sent n x) (Always n) (sent_jump x.kind t n e) has tt (sent_pointer x.kind n p.pointer)
      (sent_passes slots x.kind n (passes_in slots x.kind p.slot)) p.origin

  made_pointer : (n : ℕ) (o : Origin) (l : Loc) → LeavesPointer (made_jump n o l).kind
  made_pointer n o l = All-cons IsNotPointer (OfBlock n) [] tt (none_in IsNotPointer)

  good_made : (n : ℕ) (o : Origin) (l : Loc) → Contains ids n → OriginIn b o → Good (made_jump n o l)
  good_made n o l has origin = good_leading (made_jump n o l) (Always n) refl has tt (made_pointer n o l)
      (All-cons (PassedIn slots) (OfBlock n) [] tt (none_in (PassedIn slots))) origin

  silent_in : OriginIn b (Before (record { block = b.id; item = b.source_end }))
  silent_in = (refl, omega arith)

  abbrev source_end : Pos
  source_end = record { block = b.id; item = b.source_end }

  good_jump : (xs : List Item) (n : ℕ) → IsJumpAtMost xs → All Plain xs → Contains ids n → Good (jump_at_end source_end (first_of xs) n)
  good_jump [] n h all has = good_made n (Before source_end) Absent has silent_in
  good_jump (j ∷ []) n h all has = let w = always_some (exit_of j.kind) h in good_sent_jump j w.0 n w.1 has (All-head Plain j [] all)
  good_jump (j ∷ y ∷ ys) n h all has = absurd h

  good_branch_jump : (x : Item) (xs : List Item) (n : ℕ) → IsJumpAtMost xs → Plain x → All Plain xs → Contains ids n →
      Good (jump_for_branch source_end x (first_of xs) n)
  good_branch_jump x xs n h p all has = let g = good_jump xs n h all has in record {
    target = g.target;
    plain = record { slot = g.plain.slot; passed = g.plain.passed; object = g.plain.object; pointer = g.plain.pointer; origin = p.origin };
  }

  one_good : (x : Item) → Good x → All Good (x ∷ [])
  one_good x g = All-cons Good x [] g (none_in Good)

  needed_good : (next : Option ℕ) (n : ℕ) (j : Item) → Good j → All Good (if_needed next n j)
  needed_good next n j g = by_test (is_number next n) where
    by_test : (z : Bool) → All Good (cond z [] (j ∷ []))
    by_test true = none_in Good
    by_test false = one_good j g

  branch_good : (next : Option ℕ) (x : Item) (t : ℕ) (xs : List Item) (u v : ℕ) → exit_of x.kind ≡ Perhaps t → IsJumpAtMost xs → Plain x → All Plain xs →
      Contains ids u → Contains ids v → All Good (branch_tail next source_end x (first_of xs) u v)
  branch_good next x t xs u v e h p all has_u has_v = by_tests (nat_eq u v) (is_number next v) (is_number next u) where
    by_tests : (q r s : Bool) → All Good (cond q (if_needed next v (jump_for_branch source_end x (first_of xs) v)) (cond r (sent u x ∷ [])
        (cond s (turned v x ∷ []) (sent u x ∷ jump_at_end source_end (first_of xs) v ∷ []))))
    by_tests true r s = needed_good next v (jump_for_branch source_end x (first_of xs) v) (good_branch_jump x xs v h p all has_v)
    by_tests false true s = one_good (sent u x) (good_sent x t u e has_u p)
    by_tests false false true = one_good (turned v x) (good_turned x t v e has_v p)
    by_tests false false false =
        All-cons Good (sent u x) (jump_at_end source_end (first_of xs) v ∷ []) (good_sent x t u e has_u p) (one_good (jump_at_end source_end (first_of xs) v)
        (good_jump xs v h all has_v))

  module _ (end : ℕ → ℕ) (next fall : Option ℕ) where
    pub rewritten_good : (xs : List Item) → EndsWell xs → (fall ≡ None → Closes xs) → All Plain xs →
        ((n : ℕ) → LeadTo (ways_of xs fall) n → Contains ids (end n)) → All Good (rewritten end next fall source_end xs)
    rewritten_good [] ends onto all ways = by_fall fall (λ n e. ways n (inr e)) where
      by_fall : (o : Option ℕ) → ((n : ℕ) → o ≡ Some n → Contains ids (end n)) → All Good (plain_tail end next fall source_end None o)
      by_fall None to = none_in Good
      by_fall (Some n) to = needed_good next (end n) (made_jump (end n) (Before source_end) Absent) (good_made (end n) (Before source_end) Absent
          (to n refl) silent_in)
    rewritten_good (x ∷ xs) ends onto all ways =
        by_exit (exit_of x.kind) refl ends.0 ways (λ o w. rewritten_good xs ends.1 o (All-tail Plain x xs all) w) where
          plain : Plain x
          plain = All-head Plain x xs all

          below : exit_of x.kind ≡ Onward → fall ≡ None → Closes xs
          below e none = by_rest xs (onto none) where
            by_rest : (ys : List Item) → Closes (x ∷ ys) → Closes ys
            by_rest [] h = absurd (subst Leaves e h)
            by_rest (y ∷ ys) h = h

          by_to : (n : ℕ) (o : Option ℕ) (m : ℕ) → o ≡ Some m → exit_of x.kind ≡ Perhaps n → IsJumpAtMost xs → Contains ids (end n) → Contains ids (end m) →
              All Good (branch_tail_to end next fall source_end x (first_of xs) n o)
          by_to n None m e at may has_n has_m = cc
          by_to n (Some k) m e at may has_n has_m =
              let same : m ≡ k = cc in
              branch_good next x n xs (end n) (end k) at may plain (All-tail Plain x xs all) has_n (subst (λ (z : ℕ). Contains ids (end z)) same has_m)

          by_exit : (e : Exit) → exit_of x.kind ≡ e → MayFollow e xs →
              ((n : ℕ) → LeadTo (ways_by e (first_of xs) (ways_of xs fall) fall) n → Contains ids (end n)) →
              ((fall ≡ None → Closes xs) → ((n : ℕ) → LeadTo (ways_of xs fall) n → Contains ids (end n)) → All Good (rewritten end next fall source_end xs)) →
              All Good (tail_by end next fall source_end e x (first_of xs) (rewritten end next fall source_end xs))
          by_exit Onward e may to rest = All-cons Good x (rewritten end next fall source_end xs) (good_left x Onward e tt plain) (rest (below e) to)
          by_exit (Perhaps n) e may to rest =
              let w = goes_else x n xs fall e may onto in
              by_to n (else_way (first_of xs) fall) w.0 w.1 e may (to n (inl refl)) (to w.0 (inr w.1))
          by_exit (Always n) e may to rest = needed_good next (end n) (sent (end n) x) (good_sent_jump x n (end n) e (to n (inr refl)) plain)
          by_exit Final e may to rest = one_good x (good_left x Final e tt plain)

-- ---- how they end

pub jump_exit : (s : Pos) (xs : List Item) (n : ℕ) → IsJumpAtMost xs → exit_of (jump_at_end s (first_of xs) n).kind ≡ Always n
jump_exit s [] n h = refl
jump_exit s (j ∷ []) n h = let w = always_some (exit_of j.kind) h in sent_jump j.kind w.0 n w.1
jump_exit s (j ∷ y ∷ ys) n h = absurd h

ends_jump : (j : Item) (n : ℕ) → exit_of j.kind ≡ Always n → EndsWell (j ∷ [])
ends_jump j n e = (subst (λ (z : Exit). MayFollow z []) (sym e) refl, tt)

ends_branch : (x : Item) (n : ℕ) → exit_of x.kind ≡ Perhaps n → EndsWell (x ∷ [])
ends_branch x n e = (subst (λ (z : Exit). MayFollow z []) (sym e) tt, tt)

ends_both : (x j : Item) (n m : ℕ) → exit_of x.kind ≡ Perhaps n → exit_of j.kind ≡ Always m → EndsWell (x ∷ j ∷ [])
ends_both x j n m e k = (subst (λ (z : Exit). MayFollow z (j ∷ [])) (sym e) (subst IsAlways (sym k) tt), ends_jump j m k)

ends_needed : (next : Option ℕ) (n : ℕ) (j : Item) → exit_of j.kind ≡ Always n → EndsWell (if_needed next n j)
ends_needed next n j e = by_test (is_number next n) where
  by_test : (z : Bool) → EndsWell (cond z [] (j ∷ []))
  by_test true = tt
  by_test false = ends_jump j n e

closes_jump : (j : Item) (n : ℕ) → exit_of j.kind ≡ Always n → Closes (j ∷ [])
closes_jump j n e = subst Leaves (sym e) tt

pub closes_more : (x : Item) (ys : List Item) → Closes ys → Closes (x ∷ ys)
closes_more x [] h = absurd h
closes_more x (y ∷ ys) h = h

module _ (end : ℕ → ℕ) (next fall : Option ℕ) (s : Pos) where
  branch_ends : (x : Item) (t : ℕ) (xs : List Item) (u v : ℕ) → exit_of x.kind ≡ Perhaps t → IsJumpAtMost xs →
      EndsWell (branch_tail next s x (first_of xs) u v) × (next ≡ None → Closes (branch_tail next s x (first_of xs) u v))
  branch_ends x t xs u v e h = by_tests (nat_eq u v) (is_number next v) (is_number next u) refl refl where
    j : Item
    j = jump_at_end s (first_of xs) v

    at : exit_of j.kind ≡ Always v
    at = jump_exit s xs v h

    number_none : (n : ℕ) → next ≡ None → is_number next n ≡ false
    number_none n e = ap (λ (z : Option ℕ). is_number z n) e

    by_tests : (q r z : Bool) → is_number next v ≡ r → is_number next u ≡ z →
        EndsWell (cond q (if_needed next v (jump_for_branch s x (first_of xs) v)) (cond r (sent u x ∷ []) (cond z (turned v x ∷ []) (sent u x ∷ j ∷ [])))) ×
        (next ≡ None → Closes (cond q (if_needed next v (jump_for_branch s x (first_of xs) v)) (cond r (sent u x ∷ [])
        (cond z (turned v x ∷ []) (sent u x ∷ j ∷ [])))))
    by_tests true r z a b = (
      ends_needed next v (jump_for_branch s x (first_of xs) v) at,
      λ none. subst (λ (y : Bool). Closes (cond y [] (jump_for_branch s x (first_of xs) v ∷ []))) (sym (number_none v none))
          (closes_jump (jump_for_branch s x (first_of xs) v) v at),
    )
    by_tests false true z a b = (
      ends_branch (sent u x) u (sent_branch x.kind t u e),
      λ none. (let bad : true ≡ false = sym a ∙ number_none v none in cc),
    )
    by_tests false false true a b = (
      ends_branch (turned v x) v (turned_branch x.kind t v e),
      λ none. (let bad : true ≡ false = sym b ∙ number_none u none in cc),
    )
    by_tests false false false a b = (ends_both (sent u x) j u v (sent_branch x.kind t u e) at, λ none. closes_jump j v at)

  needed_ends : (n : ℕ) (j : Item) → exit_of j.kind ≡ Always n → EndsWell (if_needed next n j) × (next ≡ None → Closes (if_needed next n j))
  needed_ends n j e = (
    ends_needed next n j e,
    λ none. subst (λ (z : Option ℕ). Closes (if_needed z n j)) (sym none) (closes_jump j n e),
  )

  pub rewritten_ends : (xs : List Item) → EndsWell xs → (fall ≡ None → Closes xs) →
      EndsWell (rewritten end next fall s xs) × (next ≡ None → Closes (rewritten end next fall s xs))
  rewritten_ends [] ends onto = by_fall fall onto where
    by_fall : (o : Option ℕ) → (o ≡ None → ⊥) → EndsWell (plain_tail end next fall s None o) × (next ≡ None → Closes (plain_tail end next fall s None o))
    by_fall None h = absurd (h refl)
    by_fall (Some n) h = needed_ends (end n) (made_jump (end n) (Before s) Absent) refl
  rewritten_ends (x ∷ xs) ends onto = by_exit (exit_of x.kind) refl ends.0 (λ o. rewritten_ends xs ends.1 o) where
    below : exit_of x.kind ≡ Onward → fall ≡ None → Closes xs
    below e none = by_rest xs (onto none) where
      by_rest : (ys : List Item) → Closes (x ∷ ys) → Closes ys
      by_rest [] h = absurd (subst Leaves e h)
      by_rest (y ∷ ys) h = h

    by_to : (n : ℕ) (o : Option ℕ) (m : ℕ) → o ≡ Some m → exit_of x.kind ≡ Perhaps n → IsJumpAtMost xs →
        EndsWell (branch_tail_to end next fall s x (first_of xs) n o) × (next ≡ None → Closes (branch_tail_to end next fall s x (first_of xs) n o))
    by_to n None m e at may = cc
    by_to n (Some k) m e at may = branch_ends x n xs (end n) (end k) at may

    by_exit : (e : Exit) → exit_of x.kind ≡ e → MayFollow e xs →
        ((fall ≡ None → Closes xs) → EndsWell (rewritten end next fall s xs) × (next ≡ None → Closes (rewritten end next fall s xs))) →
        EndsWell (tail_by end next fall s e x (first_of xs) (rewritten end next fall s xs)) ×
        (next ≡ None → Closes (tail_by end next fall s e x (first_of xs) (rewritten end next fall s xs)))
    by_exit Onward e may rest = let r = rest (below e) in (
      (subst (λ (z : Exit). MayFollow z (rewritten end next fall s xs)) (sym e) tt, r.0),
      λ none. closes_more x (rewritten end next fall s xs) (r.1 none),
    )
    by_exit (Perhaps n) e may rest = let w = goes_else x n xs fall e may onto in by_to n (else_way (first_of xs) fall) w.0 w.1 e may
    by_exit (Always n) e may rest = needed_ends (end n) (sent (end n) x) (sent_jump x.kind n (end n) e)
    by_exit Final e may rest = (
      (subst (λ (z : Exit). MayFollow z []) (sym e) refl, tt),
      λ none. subst Leaves (sym e) tt,
    )
