-- The blocks that stay: their numbers, and that ways lead among them.
use Rattle.std.proofs.Common.{◌≡◌, ◌⊎◌, ℕ, zero, suc, ◌≤◌, List, [], ◌∷◌, length, All, Contains, Option, Some, None, Bool, true, false, cond, nat_eq}
use Rattle.std.proofs.Common.{refl, sym, ap, ◌∙◌, subst, inl, inr, arith}
use Rattle.std.specs.List.{slice_get}
use Rattle.std.proofs.lemmas.Bool.{eq-eqb}
use Rattle.std.proofs.lemmas.List.Elements.{All-head, All-tail, All-cons, All-weaker}
use Rattle.std.proofs.lemmas.Option.{slice_get-get_or, slice_get_within, get_or_from_slice_get}
use Rattle.rv64_instr.specs.Row.{row_of}
use Rattle.mir_func.specs.declared.block.Block.{Block}
use Rattle.mir_func.specs.declared.exit.Exit.{Exit}
use Rattle.mir_func.specs.declared.exit.Exit.TheVariants.{Onward, Perhaps, Always, Final}
use Rattle.mir_func.specs.declared.item.Item.{Item}
use Rattle.mir_func.specs.declared.item.ItemKind.{ItemKind}
use Rattle.mir_func.specs.declared.item.ItemKind.TheVariants.{Code, Mark, Phi}
use Rattle.mir_func.specs.declared.object.Object.{Object}
use Rattle.mir_func.specs.Exits.{row_exit, exit_of}
use Rattle.mir_func.specs.Sound.{AreApart, ids_of, EndsWell, Closes, LastCloses}
use Rattle.fold_targets.specs.Ways.{EndsAt, leads_nowhere, comes_round, goes_on}
use Rattle.fold_targets.specs.Leads.{first_id, always_to, lead_by, lead_of, lead_in, lead}
use Rattle.fold_targets.proofs.Ways.{test_of}
use Rattle.fold_targets.proofs.Blocks.{apart_tail}
use Rattle.fold_rule.specs.declared.ways.Ways.{Ways}
use Rattle.fold_rule.specs.Tails.{first_of, else_way, ways_by, ways_of, rewritten}
use Rattle.fold_rule.specs.Reached.{ways_in, LeadTo}
use Rattle.fold_rule.specs.Rule.{folded_block, staying, folded_blocks}
use Rattle.fold_rule_proof.proofs.Rows.{GoesIn}
use Rattle.fold_rule_proof.proofs.Tails.{none_in, IsPlain, IsGood, rewritten_good, rewritten_ends}

-- ---- elements by their places

abbrev pub Has : List ℕ → ℕ → Type 0
Has ns n = (i : ℕ) × (slice_get ns i ≡ Some n)

pub has_from : (ns : List ℕ) (n : ℕ) → Contains ns n → Has ns n
has_from ns n h = (h.0, slice_get-get_or ns h.0 n h.1 ∙ ap (λ (z : ℕ). Some z) h.2)

pub contains_from : (ns : List ℕ) (n : ℕ) → Has ns n → Contains ns n
contains_from ns n h = (h.0, slice_get_within ns h.0 n h.1, get_or_from_slice_get ns h.0 n n h.1)

has_later : (m : ℕ) (ns : List ℕ) (n : ℕ) → Has ns n → Has (m ∷ ns) n
has_later m ns n h = (suc h.0, h.1)

has_first : (m : ℕ) (ns : List ℕ) (n : ℕ) → m ≡ n → Has (m ∷ ns) n
has_first m ns n e = (0, ap (λ (z : ℕ). Some z) e)

-- ---- the numbers of the blocks that stay

module _ (end : ℕ → ℕ) (kept : ℕ → Bool) where
  folded_from : (bs : List Block) (n : ℕ) → Has (ids_of (folded_blocks end kept bs)) n → Has (ids_of bs) n
  folded_from [] n h = h
  folded_from (b ∷ bs) n h = by_test (kept b.id) h (folded_from bs n) where
    by_test : (z : Bool) →
        Has (ids_of (cond z (folded_block end (first_id (staying kept bs)) (first_id bs) b ∷ folded_blocks end kept bs) (folded_blocks end kept bs))) n →
        (Has (ids_of (folded_blocks end kept bs)) n → Has (ids_of bs) n) → Has (ids_of (b ∷ bs)) n
    by_test true (zero, e) below = (0, e)
    by_test true (suc i, e) below = has_later b.id (ids_of bs) n (below (i, e))
    by_test false h below = has_later b.id (ids_of bs) n (below h)

  apart_cons : (m : ℕ) (ns : List ℕ) → AreApart ns → (Has ns m → ⊥) → AreApart (m ∷ ns)
  apart_cons m ns h out zero zero n e k = refl
  apart_cons m ns h out zero (suc j) n e k = absurd (out (j, k ∙ sym e))
  apart_cons m ns h out (suc i) zero n e k = absurd (out (i, e ∙ sym k))
  apart_cons m ns h out (suc i) (suc j) n e k = ap suc (h i j n e k)

  not_later : (m : ℕ) (ns : List ℕ) → AreApart (m ∷ ns) → Has ns m → ⊥
  not_later m ns h (j, e) = let k : 0 ≡ suc j = h 0 (suc j) m refl e in omega (arith, k)

  pub apart_folded : (bs : List Block) → AreApart (ids_of bs) → AreApart (ids_of (folded_blocks end kept bs))
  apart_folded [] h = h
  apart_folded (b ∷ bs) h = by_test (kept b.id) (apart_folded bs (apart_tail b.id (ids_of bs) h)) where
    by_test : (z : Bool) → AreApart (ids_of (folded_blocks end kept bs)) →
        AreApart (ids_of (cond z (folded_block end (first_id (staying kept bs)) (first_id bs) b ∷ folded_blocks end kept bs) (folded_blocks end kept bs)))
    by_test true k = apart_cons b.id (ids_of (folded_blocks end kept bs)) k (λ w. not_later b.id (ids_of bs) h (folded_from bs b.id w))
    by_test false k = k

  pub few_folded : (bs : List Block) → length (folded_blocks end kept bs) ≤ length bs
  few_folded [] = omega arith
  few_folded (b ∷ bs) = by_test (kept b.id) (few_folded bs) where
    by_test : (z : Bool) → length (folded_blocks end kept bs) ≤ length bs →
        length (cond z (folded_block end (first_id (staying kept bs)) (first_id bs) b ∷ folded_blocks end kept bs) (folded_blocks end kept bs)) ≤ suc
        (length bs)
    by_test true le = omega (arith, le)
    by_test false le = omega (arith, le)

  pub folded_has : (bs : List Block) (n : ℕ) → Has (ids_of bs) n → kept n ≡ true → Has (ids_of (folded_blocks end kept bs)) n
  folded_has [] n h k = h
  folded_has (b ∷ bs) n (zero, e) k = by_test (kept b.id) (ap kept same ∙ k) where
    same : b.id ≡ n
    same = cc

    by_test : (z : Bool) → z ≡ true →
        Has (ids_of (cond z (folded_block end (first_id (staying kept bs)) (first_id bs) b ∷ folded_blocks end kept bs) (folded_blocks end kept bs))) n
    by_test true t = has_first b.id (ids_of (folded_blocks end kept bs)) n same
    by_test false t = cc
  folded_has (b ∷ bs) n (suc i, e) k = by_test (kept b.id) (folded_has bs n (i, e) k) where
    by_test : (z : Bool) → Has (ids_of (folded_blocks end kept bs)) n →
        Has (ids_of (cond z (folded_block end (first_id (staying kept bs)) (first_id bs) b ∷ folded_blocks end kept bs) (folded_blocks end kept bs))) n
    by_test true h = has_later b.id (ids_of (folded_blocks end kept bs)) n h
    by_test false h = h

-- ---- where blocks lead

module _ (ids : List ℕ) where
  abbrev pub Targets : List Item → Type 0
  Targets xs = All (λ (i : Item). GoesIn ids (exit_of i.kind)) xs

  always_in : (e : Exit) (m : ℕ) → GoesIn ids e → always_to e ≡ Some m → Contains ids m
  always_in (Always n) m h e = let same : n ≡ m = cc in subst (Contains ids) same h
  always_in (Perhaps n) m h e = cc
  always_in Onward m h e = cc
  always_in Final m h e = cc

  lead_goes : (xs : List Item) (next : Option ℕ) (m : ℕ) → Targets xs → ((k : ℕ) → next ≡ Some k → Contains ids k) → lead_of xs next ≡ Some m → Contains ids m
  lead_goes [] next m all to e = to m e
  lead_goes (x ∷ xs) next m all to e =
      by_kind x.kind (All-head (λ (i : Item). GoesIn ids (exit_of i.kind)) x xs all) e
      (lead_goes xs next m (All-tail (λ (i : Item). GoesIn ids (exit_of i.kind)) x xs all) to) where
        by_kind : (k : ItemKind) → GoesIn ids (exit_of k) → lead_by k (lead_of xs next) ≡ Some m → (lead_of xs next ≡ Some m → Contains ids m) → Contains ids m
        by_kind (Code i n) h e rest = always_in (row_exit (row_of i)) m h e
        by_kind (Mark v n) h e rest = rest e
        by_kind (Phi p n) h e rest = rest e

  first_in : (bs : List Block) → ((n : ℕ) → Has (ids_of bs) n → Contains ids n) → (k : ℕ) → first_id bs ≡ Some k → Contains ids k
  first_in [] among k e = cc
  first_in (b ∷ bs) among k e = let same : b.id ≡ k = cc in among k (has_first b.id (ids_of bs) k same)

  lead_in_goes : (bs : List Block) (q m : ℕ) → All (λ (b : Block). Targets b.items) bs → ((n : ℕ) → Has (ids_of bs) n → Contains ids n) →
      lead_in bs q ≡ Some m → Contains ids m
  lead_in_goes [] q m all among e = cc
  lead_in_goes (b ∷ bs) q m all among e =
      by_test (nat_eq b.id q) e (lead_in_goes bs q m (All-tail (λ (b : Block). Targets b.items) b bs all) below) where
        below : (n : ℕ) → Has (ids_of bs) n → Contains ids n
        below n h = among n (has_later b.id (ids_of bs) n h)

        by_test : (z : Bool) → cond z (lead_of b.items (first_id bs)) (lead_in bs q) ≡ Some m → (lead_in bs q ≡ Some m → Contains ids m) → Contains ids m
        by_test true k rest = lead_goes b.items (first_id bs) m (All-head (λ (b : Block). Targets b.items) b bs all) (first_in bs below) k
        by_test false k rest = rest k

  pub lead_stays : (bs : List Block) (q m : ℕ) → All (λ (b : Block). Targets b.items) bs → ((n : ℕ) → Has (ids_of bs) n → Contains ids n) →
      lead bs q ≡ Some m → Contains ids m
  lead_stays [] q m all among e = cc
  lead_stays (b ∷ bs) q m all among e =
      lead_in_goes bs q m (All-tail (λ (b : Block). Targets b.items) b bs all) (λ n h. among n (has_later b.id (ids_of bs) n h)) e

  -- a way that begins at a block ends at one
  pub end_stays : (lead : ℕ → Option ℕ) → ((q m : ℕ) → lead q ≡ Some m → Contains ids m) → {n e : ℕ} → EndsAt lead n e → Contains ids n → Contains ids e
  end_stays lead to (leads_nowhere h) c = c
  end_stays lead to (comes_round h) c = c
  end_stays lead to (goes_on {b} {n} {e} at ne rest) c = end_stays lead to rest (to b n at)

  else_in : (xs : List Item) (fall : Option ℕ) (n : ℕ) → Targets xs → ((k : ℕ) → fall ≡ Some k → Contains ids k) → else_way (first_of xs) fall ≡ Some n
      → Contains ids n
  else_in [] fall n all to e = to n e
  else_in (x ∷ xs) fall n all to e = always_in (exit_of x.kind) n (All-head (λ (i : Item). GoesIn ids (exit_of i.kind)) x xs all) e

  pub ways_stay : (xs : List Item) (fall : Option ℕ) (n : ℕ) → Targets xs → ((k : ℕ) → fall ≡ Some k → Contains ids k) → LeadTo (ways_of xs fall) n →
      Contains ids n
  ways_stay [] fall n all to (inl e) = cc
  ways_stay [] fall n all to (inr e) = to n e
  ways_stay (x ∷ xs) fall n all to l =
      by_exit (exit_of x.kind) (All-head (λ (i : Item). GoesIn ids (exit_of i.kind)) x xs all) l
      (ways_stay xs fall n (All-tail (λ (i : Item). GoesIn ids (exit_of i.kind)) x xs all) to) where
        by_exit : (e : Exit) → GoesIn ids e → LeadTo (ways_by e (first_of xs) (ways_of xs fall) fall) n → (LeadTo (ways_of xs fall) n → Contains ids n) →
            Contains ids n
        by_exit Onward h l rest = rest l
        by_exit (Perhaps m) h (inl e) rest = let same : m ≡ n = cc in subst (Contains ids) same h
        by_exit (Perhaps m) h (inr e) rest = else_in xs fall n (All-tail (λ (i : Item). GoesIn ids (exit_of i.kind)) x xs all) to e
        by_exit (Always m) h (inl e) rest = cc
        by_exit (Always m) h (inr e) rest = let same : m ≡ n = cc in subst (Contains ids) same h
        by_exit Final h (inl e) rest = cc
        by_exit Final h (inr e) rest = cc

-- ---- the blocks that stay, as a function's blocks must be

-- control doesn't fall out of the first block, where it is the last one
pub onto : (b : Block) (bs : List Block) → LastCloses (b ∷ bs) → first_id bs ≡ None → Closes b.items
onto b [] h e = h
onto b (c ∷ cs) h e = cc

last_tail : (b : Block) (bs : List Block) → LastCloses (b ∷ bs) → (bs ≡ [] → ⊥) → LastCloses bs
last_tail b [] h ne = absurd (ne refl)
last_tail b (c ∷ cs) h ne = h

-- a block's own ways are those that its number has
ways_first : (b : Block) (bs : List Block) → ways_in (b ∷ bs) b.id ≡ Some (ways_of b.items (first_id bs))
ways_first b bs = ap (λ (z : Bool). cond z (Some (ways_of b.items (first_id bs))) (ways_in bs b.id)) (eq-eqb b.id b.id refl)

ways_has : (bs : List Block) (q : ℕ) (w : Ways) → ways_in bs q ≡ Some w → Has (ids_of bs) q
ways_has [] q w e = cc
ways_has (b ∷ bs) q w e = elim (test_of b.id q (nat_eq b.id q) refl) [
  | inl k ↦ has_first b.id (ids_of bs) q k.1
  | inr k ↦ has_later b.id (ids_of bs) q
      (ways_has bs q w (sym (ap (λ (z : Bool). cond z (Some (ways_of b.items (first_id bs))) (ways_in bs q)) k.0) ∙ e))
]

ways_later : (b : Block) (bs : List Block) (q : ℕ) (w : Ways) → AreApart (ids_of (b ∷ bs)) → ways_in bs q ≡ Some w → ways_in (b ∷ bs) q ≡ Some w
ways_later b bs q w apart e = elim (test_of b.id q (nat_eq b.id q) refl) [
  | inl k ↦ (let h = ways_has bs q w e in
      let bad : 0 ≡ suc h.0 = apart 0 (suc h.0) q (ap (λ (z : ℕ). Some z) k.1) h.1 in
      absurd (omega (arith, bad)))
  | inr k ↦ ap (λ (z : Bool). cond z (Some (ways_of b.items (first_id bs))) (ways_in bs q)) k.0 ∙ e
]

module _ (slots : List ℕ) (objects : List Object) (end : ℕ → ℕ) (kept : ℕ → Bool) (ids : List ℕ) where
  -- each way from a block that stays leads to one
  abbrev pub WaysStay : List Block → Type 0
  WaysStay bs = (q n : ℕ) (w : Ways) → kept q ≡ true → ways_in bs q ≡ Some w → LeadTo w n → Contains ids (end n)

  abbrev pub AllGood : List Block → Type 0
  AllGood bs = All (λ (b : Block). All (IsGood ids slots objects b) b.items) bs

  abbrev pub AllPlain : List Block → Type 0
  AllPlain bs = All (λ (b : Block). All (IsPlain slots objects b) b.items) bs

  -- the last of the blocks closes, if there is one
  abbrev pub Last : List Block → Type 0
  Last bs = (bs ≡ []) ⊎ LastCloses bs

  last_of_tail : (b : Block) (bs : List Block) → LastCloses (b ∷ bs) → Last bs
  last_of_tail b [] l = inl refl
  last_of_tail b (c ∷ cs) l = inr l

  closing : (b : Block) (bs : List Block) → Last (b ∷ bs) → LastCloses (b ∷ bs)
  closing b bs (inl e) = cc
  closing b bs (inr l) = l

  -- what is asked of an item hangs on its block's number and silent index alone
  good_again : (b : Block) (xs : List Item) → All (IsGood ids slots objects b) xs → All (IsGood ids slots objects (record b { items = xs })) xs
  good_again b xs h = All-weaker (IsGood ids slots objects b) (IsGood ids slots objects (record b { items = xs })) (λ i g. record {
    target = g.target;
    plain = record { slot = g.plain.slot; passed = g.plain.passed; object = g.plain.object; pointer = g.plain.pointer; origin = g.plain.origin };
  }) xs h

  pub good_blocks : (bs : List Block) → AreApart (ids_of bs) → All (λ (b : Block). EndsWell b.items) bs → Last bs → AllPlain bs → WaysStay bs →
      AllGood (folded_blocks end kept bs)
  good_blocks [] apart ends last plain ways = none_in (λ (b : Block). All (IsGood ids slots objects b) b.items)
  good_blocks (b ∷ bs) apart ends last plain ways =
      by_test (kept b.id) refl (All-head (λ (b : Block). EndsWell b.items) b bs ends) (closing b bs last)
      (All-head (λ (b : Block). All (IsPlain slots objects b) b.items) b bs plain)
      (good_blocks bs (apart_tail b.id (ids_of bs) apart) (All-tail (λ (b : Block). EndsWell b.items) b bs ends) (last_of_tail b bs (closing b bs last))
      (All-tail (λ (b : Block). All (IsPlain slots objects b) b.items) b bs plain)
      (λ q n w k e l. ways q n w k (ways_later b bs q w apart e) l)) where
        by_test : (z : Bool) → kept b.id ≡ z → EndsWell b.items → LastCloses (b ∷ bs) → All (IsPlain slots objects b) b.items →
            AllGood (folded_blocks end kept bs) →
            AllGood (cond z (folded_block end (first_id (staying kept bs)) (first_id bs) b ∷ folded_blocks end kept bs) (folded_blocks end kept bs))
        by_test true k e l p rest = All-cons (λ (b : Block). All (IsGood ids slots objects b) b.items)
            (folded_block end (first_id (staying kept bs)) (first_id bs) b) (folded_blocks end kept bs)
            (good_again b (rewritten end (first_id (staying kept bs)) (first_id bs) (record { block = b.id; item = b.source_end }) b.items)
            (rewritten_good ids slots objects b end (first_id (staying kept bs)) (first_id bs) b.items e (onto b bs l) p
            (λ n to. ways b.id n (ways_of b.items (first_id bs)) k (ways_first b bs) to))) rest
        by_test false k e l p rest = rest

  pub ends_blocks : (bs : List Block) → All (λ (b : Block). EndsWell b.items) bs → Last bs →
      All (λ (b : Block). EndsWell b.items) (folded_blocks end kept bs)
  ends_blocks [] ends last = none_in (λ (b : Block). EndsWell b.items)
  ends_blocks (b ∷ bs) ends last =
      by_test (kept b.id) (All-head (λ (b : Block). EndsWell b.items) b bs ends) (closing b bs last)
      (ends_blocks bs (All-tail (λ (b : Block). EndsWell b.items) b bs ends) (last_of_tail b bs (closing b bs last))) where
        by_test : (z : Bool) → EndsWell b.items → LastCloses (b ∷ bs) → All (λ (b : Block). EndsWell b.items) (folded_blocks end kept bs) →
            All (λ (b : Block). EndsWell b.items)
            (cond z (folded_block end (first_id (staying kept bs)) (first_id bs) b ∷ folded_blocks end kept bs) (folded_blocks end kept bs))
        by_test true e l rest = All-cons (λ (b : Block). EndsWell b.items) (folded_block end (first_id (staying kept bs)) (first_id bs) b)
            (folded_blocks end kept bs)
            (rewritten_ends end (first_id (staying kept bs)) (first_id bs) (record { block = b.id; item = b.source_end }) b.items e (onto b bs l)).0 rest
        by_test false e l rest = rest

  last_cons : (b : Block) (cs : List Block) → LastCloses cs → LastCloses (b ∷ cs)
  last_cons b [] h = absurd h
  last_cons b (c ∷ cs) h = h

  pub last_blocks : (bs : List Block) → All (λ (b : Block). EndsWell b.items) bs → Last bs →
      (first_id (staying kept bs) ≡ None → folded_blocks end kept bs ≡ []) ×
      ((m : ℕ) → first_id (staying kept bs) ≡ Some m → LastCloses (folded_blocks end kept bs))
  last_blocks [] ends last = (λ e. refl, λ m e. cc)
  last_blocks (b ∷ bs) ends last =
      by_test (kept b.id) (All-head (λ (b : Block). EndsWell b.items) b bs ends) (closing b bs last)
      (last_blocks bs (All-tail (λ (b : Block). EndsWell b.items) b bs ends) (last_of_tail b bs (closing b bs last))) where
        fb : Block
        fb = folded_block end (first_id (staying kept bs)) (first_id bs) b

        Both : List Block → List Block → Type 0
        Both cs ds = (first_id cs ≡ None → ds ≡ []) × ((m : ℕ) → first_id cs ≡ Some m → LastCloses ds)

        by_next : (o : Option ℕ) → first_id (staying kept bs) ≡ o → EndsWell b.items → LastCloses (b ∷ bs) →
            Both (staying kept bs) (folded_blocks end kept bs) → LastCloses (fb ∷ folded_blocks end kept bs)
        by_next None e well l rest = subst (λ (cs : List Block). LastCloses (fb ∷ cs)) (sym (rest.0 e))
            ((rewritten_ends end (first_id (staying kept bs)) (first_id bs) (record { block = b.id; item = b.source_end }) b.items well (onto b bs l)).1 e)
        by_next (Some m) e well l rest = last_cons fb (folded_blocks end kept bs) (rest.1 m e)

        by_test : (z : Bool) → EndsWell b.items → LastCloses (b ∷ bs) → Both (staying kept bs) (folded_blocks end kept bs) →
            Both (cond z (b ∷ staying kept bs) (staying kept bs)) (cond z (fb ∷ folded_blocks end kept bs) (folded_blocks end kept bs))
        by_test true well l rest = (λ e. cc, λ m e. by_next (first_id (staying kept bs)) refl well l rest)
        by_test false well l rest = rest

pub ways_goes : (ids : List ℕ) (bs : List Block) (q n : ℕ) (w : Ways) → All (λ (b : Block). Targets ids b.items) bs →
    ((m : ℕ) → Has (ids_of bs) m → Contains ids m) → ways_in bs q ≡ Some w → LeadTo w n → Contains ids n
ways_goes ids [] q n w all among e l = cc
ways_goes ids (b ∷ bs) q n w all among e l =
    by_test (nat_eq b.id q) e (ways_goes ids bs q n w (All-tail (λ (b : Block). Targets ids b.items) b bs all) below) where
      below : (m : ℕ) → Has (ids_of bs) m → Contains ids m
      below m h = among m (has_later b.id (ids_of bs) m h)

      by_test : (z : Bool) → cond z (Some (ways_of b.items (first_id bs))) (ways_in bs q) ≡ Some w → (ways_in bs q ≡ Some w → LeadTo w n → Contains ids n) →
          Contains ids n
      by_test true k rest =
          let same : w ≡ ways_of b.items (first_id bs) = cc in
          ways_stay ids b.items (first_id bs) n (All-head (λ (b : Block). Targets ids b.items) b bs all) (first_in ids bs below)
          (subst (λ (z : Ways). LeadTo z n) same l)
      by_test false k rest = rest k l
