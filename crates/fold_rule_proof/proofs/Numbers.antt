-- Numbers of items stay apart where items go, or become others with the same number.
use Rattle.std.proofs.Common.{◌≡◌, ℕ, zero, suc, List, [], ◌∷◌, ◌++◌, Option, Some, None, Bool, true, false, cond, nat_eq, refl, sym, ap, ◌∙◌, arith}
use Rattle.std.specs.List.{slice_get}
use Rattle.mir_func.specs.declared.block.Block.{Block}
use Rattle.mir_func.specs.declared.exit.Exit.{Exit}
use Rattle.mir_func.specs.declared.exit.Exit.TheVariants.{Onward, Perhaps, Always, Final}
use Rattle.mir_func.specs.declared.item.Item.{Item}
use Rattle.mir_func.specs.declared.item.ItemKind.{ItemKind}
use Rattle.mir_func.specs.declared.item.ItemKind.TheVariants.{Code, Mark, Phi}
use Rattle.mir_func.specs.declared.position.Pos.{Pos}
use Rattle.mir_func.specs.Exits.{exit_of}
use Rattle.mir_func.specs.Sound.{number_of, code_number, NumbersOnce, items_of}
use Rattle.fold_targets.specs.Leads.{first_id}
use Rattle.fold_rule.specs.Turned.{to_block, inverse_to, with_code, sent, turned}
use Rattle.fold_rule.specs.Tails.{first_of, else_way, is_number, if_needed, jump_at_end, jump_for_branch, branch_tail, plain_tail}
use Rattle.fold_rule.specs.Tails.{branch_tail_to, tail_by, rewritten}
use Rattle.fold_rule.specs.Rule.{folded_block, staying, folded_blocks}

-- items that come from others, in order: each has the number of one, or none
pub data ComeFrom : (new old : List Item) → Type 0 where
  none : ComeFrom [] []
  stays : {x w : Item} {xs ys : List Item} → number_of w.kind ≡ number_of x.kind → code_number w.kind ≡ code_number x.kind → ComeFrom ys xs →
      ComeFrom (w ∷ ys) (x ∷ xs)
  goes : {x : Item} {xs ys : List Item} → ComeFrom ys xs → ComeFrom ys (x ∷ xs)
  added : {w : Item} {xs ys : List Item} → number_of w.kind ≡ None → code_number w.kind ≡ None → ComeFrom ys xs → ComeFrom (w ∷ ys) xs

-- a numbered item comes from one with its number
pub comes_at : {new old : List Item} → ComeFrom new old → (j : ℕ) (y : Item) (k : ℕ) → slice_get new j ≡ Some y → number_of y.kind ≡ Some k →
    (i : ℕ) × (x : Item) × (slice_get old i ≡ Some x) × (number_of x.kind ≡ Some k) × (code_number x.kind ≡ code_number y.kind)
comes_at none j y k at n = cc
comes_at (stays {x} {w} e c rest) zero y k at n =
    let same : w ≡ y = cc in (0, x, refl, sym e ∙ ap (λ (v : Item). number_of v.kind) same ∙ n, sym c ∙ ap (λ (v : Item). code_number v.kind) same)
comes_at (stays e c rest) (suc j) y k at n = let w = comes_at rest j y k at n in (suc w.0, w.1, w.2, w.3, w.4)
comes_at (goes rest) j y k at n = let w = comes_at rest j y k at n in (suc w.0, w.1, w.2, w.3, w.4)
comes_at (added {w} e c rest) zero y k at n =
    let same : w ≡ y = cc in let bad : None ≡ Some k = sym e ∙ ap (λ (v : Item). number_of v.kind) same ∙ n in cc
comes_at (added e c rest) (suc j) y k at n = comes_at rest j y k at n

once_tail : (x : Item) (xs : List Item) → NumbersOnce (x ∷ xs) → NumbersOnce xs
once_tail x xs h i j y z k at c at' n = let e : suc i ≡ suc j = h (suc i) (suc j) y z k at c at' n in omega (arith, e)

code_numbered : (kind : ItemKind) (k : ℕ) → code_number kind ≡ Some k → number_of kind ≡ Some k
code_numbered (Code i n) k e = e
code_numbered (Mark v m) k e = cc
code_numbered (Phi p n) k e = cc

pub once_from : {new old : List Item} → ComeFrom new old → NumbersOnce old → NumbersOnce new
once_from none h i j x y k at c at' n = cc
once_from (goes {x} {xs} rest) h i j y z k at c at' n = once_from rest (once_tail x xs h) i j y z k at c at' n
once_from (added {w} e d rest) h zero j y z k at c at' n =
    let same : w ≡ y = cc in let bad : None ≡ Some k = sym d ∙ ap (λ (v : Item). code_number v.kind) same ∙ c in cc
once_from (added {w} e d rest) h (suc i) zero y z k at c at' n =
    let same : w ≡ z = cc in let bad : None ≡ Some k = sym e ∙ ap (λ (v : Item). number_of v.kind) same ∙ n in cc
once_from (added e d rest) h (suc i) (suc j) y z k at c at' n = ap suc (once_from rest h i j y z k at c at' n)
once_from (stays e d rest) h zero zero y z k at c at' n = refl
once_from (stays {x} {w} {xs} e d rest) h zero (suc j) y z k at c at' n =
    let same : w ≡ y = cc in
    let from = comes_at rest j z k at' n in
    let bad : 0 ≡ suc from.0 = h 0 (suc from.0) x from.1 k refl (sym d ∙ ap (λ (v : Item). code_number v.kind) same ∙ c) from.2 from.3 in
    absurd (omega (arith, bad))
once_from (stays {x} {w} {xs} e d rest) h (suc i) zero y z k at c at' n =
    let same : w ≡ z = cc in
    let from = comes_at rest i y k at (code_numbered y.kind k c) in
    let bad : suc from.0 ≡ 0 = h (suc from.0) 0 from.1 x k from.2 (from.4 ∙ c) refl (sym e ∙ ap (λ (v : Item). number_of v.kind) same ∙ n) in
    absurd (omega (arith, bad))
once_from (stays {x} {w} {xs} e d rest) h (suc i) (suc j) y z k at c at' n = ap suc (once_from rest (once_tail x xs h) i j y z k at c at' n)

pub all_go : (xs : List Item) → ComeFrom [] xs
all_go [] = none
all_go (x ∷ xs) = goes (all_go xs)

come_append : {a b c d : List Item} → ComeFrom a b → ComeFrom c d → ComeFrom (a ++ c) (b ++ d)
come_append none h = h
come_append (stays e c rest) h = stays e c (come_append rest h)
come_append (goes rest) h = goes (come_append rest h)
come_append (added e c rest) h = added e c (come_append rest h)

-- ---- ends written anew

sent_number : (n : ℕ) (k : ItemKind) → number_of (with_code (to_block n) k) ≡ number_of k
sent_number n (Code i m) = refl
sent_number n (Mark v m) = refl
sent_number n (Phi p m) = refl

sent_code : (n : ℕ) (k : ItemKind) → code_number (with_code (to_block n) k) ≡ code_number k
sent_code n (Code i m) = refl
sent_code n (Mark v m) = refl
sent_code n (Phi p m) = refl

turned_number : (n : ℕ) (k : ItemKind) → number_of (with_code (inverse_to n) k) ≡ number_of k
turned_number n (Code i m) = refl
turned_number n (Mark v m) = refl
turned_number n (Phi p m) = refl

turned_code : (n : ℕ) (k : ItemKind) → code_number (with_code (inverse_to n) k) ≡ code_number k
turned_code n (Code i m) = refl
turned_code n (Mark v m) = refl
turned_code n (Phi p m) = refl

jump_comes : (s : Pos) (xs : List Item) (n : ℕ) → ComeFrom (jump_at_end s (first_of xs) n ∷ []) xs
jump_comes s [] n = added refl refl none
jump_comes s (x ∷ xs) n = stays (sent_number n x.kind) (sent_code n x.kind) (all_go xs)

branch_jump_comes : (s : Pos) (x : Item) (xs : List Item) (n : ℕ) → ComeFrom (jump_for_branch s x (first_of xs) n ∷ []) xs
branch_jump_comes s x [] n = added refl refl none
branch_jump_comes s x (y ∷ ys) n = stays (sent_number n y.kind) (sent_code n y.kind) (all_go ys)

needed_comes : (next : Option ℕ) (n : ℕ) (j : Item) (xs : List Item) → ComeFrom (j ∷ []) xs → ComeFrom (if_needed next n j) xs
needed_comes next n j xs h = by_test (is_number next n) where
  by_test : (z : Bool) → ComeFrom (cond z [] (j ∷ [])) xs
  by_test true = all_go xs
  by_test false = h

branch_comes : (next : Option ℕ) (s : Pos) (x : Item) (xs : List Item) (u v : ℕ) → ComeFrom (branch_tail next s x (first_of xs) u v) (x ∷ xs)
branch_comes next s x xs u v = by_tests (nat_eq u v) (is_number next v) (is_number next u) where
  by_tests : (q r z : Bool) → ComeFrom (cond q (if_needed next v (jump_for_branch s x (first_of xs) v)) (cond r (sent u x ∷ [])
      (cond z (turned v x ∷ []) (sent u x ∷ jump_at_end s (first_of xs) v ∷ [])))) (x ∷ xs)
  by_tests true r z = goes (needed_comes next v (jump_for_branch s x (first_of xs) v) xs (branch_jump_comes s x xs v))
  by_tests false true z = stays (sent_number u x.kind) (sent_code u x.kind) (all_go xs)
  by_tests false false true = stays (turned_number v x.kind) (turned_code v x.kind) (all_go xs)
  by_tests false false false = stays (sent_number u x.kind) (sent_code u x.kind) (jump_comes s xs v)

module _ (end : ℕ → ℕ) (next fall : Option ℕ) (s : Pos) where
  rewritten_comes : (xs : List Item) → ComeFrom (rewritten end next fall s xs) xs
  rewritten_comes [] = by_fall fall where
    by_fall : (o : Option ℕ) → ComeFrom (plain_tail end next fall s None o) []
    by_fall None = none
    by_fall (Some n) = needed_comes next (end n) (jump_at_end s None (end n)) [] (jump_comes s [] (end n))
  rewritten_comes (x ∷ xs) = by_exit (exit_of x.kind) (rewritten_comes xs) where
    by_to : (n : ℕ) (o : Option ℕ) → ComeFrom (branch_tail_to end next fall s x (first_of xs) n o) (x ∷ xs)
    by_to n None = stays refl refl (all_go xs)
    by_to n (Some m) = branch_comes next s x xs (end n) (end m)

    by_exit : (e : Exit) → ComeFrom (rewritten end next fall s xs) xs →
        ComeFrom (tail_by end next fall s e x (first_of xs) (rewritten end next fall s xs)) (x ∷ xs)
    by_exit Onward h = stays refl refl h
    by_exit (Perhaps n) h = by_to n (else_way (first_of xs) fall)
    by_exit (Always n) h = needed_comes next (end n) (sent (end n) x) (x ∷ xs) (stays (sent_number (end n) x.kind) (sent_code (end n) x.kind) (all_go xs))
    by_exit Final h = stays refl refl (all_go xs)

pub folded_comes : (end : ℕ → ℕ) (kept : ℕ → Bool) (bs : List Block) → ComeFrom (items_of (folded_blocks end kept bs)) (items_of bs)
folded_comes end kept [] = none
folded_comes end kept (b ∷ bs) = by_test (kept b.id) (folded_comes end kept bs) where
  by_test : (z : Bool) → ComeFrom (items_of (folded_blocks end kept bs)) (items_of bs) →
      ComeFrom (items_of (cond z (folded_block end (first_id (staying kept bs)) (first_id bs) b ∷ folded_blocks end kept bs) (folded_blocks end kept bs)))
      (items_of (b ∷ bs))
  by_test true h = come_append (rewritten_comes end (first_id (staying kept bs)) (first_id bs) (record { block = b.id; item = b.source_end }) b.items) h
  by_test false h = come_append (all_go b.items) h
