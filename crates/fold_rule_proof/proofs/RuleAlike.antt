-- Folding sees code alone.
use Rattle.std.proofs.Common.{◌≡◌, ℕ, List, [], ◌∷◌, map, Option, Some, None, Bool, true, false, cond, nat_eq, refl, sym, ap, ◌∙◌}
use Rattle.mir_func.specs.declared.block.Block.{Block}
use Rattle.mir_func.specs.declared.exit.Exit.{Exit}
use Rattle.mir_func.specs.declared.exit.Exit.TheVariants.{Onward, Perhaps, Always, Final}
use Rattle.mir_func.specs.declared.item.Item.{Item}
use Rattle.mir_func.specs.declared.position.Pos.{Pos}
use Rattle.mir_func.specs.declared.position.Origin.{Origin}
use Rattle.mir_func.specs.declared.position.Origin.TheVariants.{Kept, Before}
use Rattle.mir_func.specs.Function.{Function}
use Rattle.mir_func.specs.Exits.{exit_of}
use Rattle.pass_trait.specs.Code.{SeesCodeAlone, originless_origin, originless_item, originless_block, originless}
use Rattle.fold_targets.specs.Leads.{first_id, lead_by, lead_of, lead_in, lead}
use Rattle.fold_rule.specs.Turned.{sent, turned}
use Rattle.fold_rule.specs.Tails.{first_of, else_way, ways_by, ways_of, is_number, if_needed, jump_at_end, jump_for_branch, branch_tail, plain_tail}
use Rattle.fold_rule.specs.Tails.{branch_tail_to, tail_by, rewritten}
use Rattle.fold_rule.specs.Reached.{ways_in}
use Rattle.fold_rule.specs.Rule.{folded_block, staying, folded_blocks, IsFolded}
use Rattle.fold_rule_proof.proofs.One.{same_ends, same_stays}

abbrev Q : List Item → List Item
Q xs = map originless_item xs

abbrev P : List Block → List Block
P bs = map originless_block bs

first_id_originless : (bs : List Block) → first_id (P bs) ≡ first_id bs
first_id_originless [] = refl
first_id_originless (b ∷ bs) = refl

lead_of_originless : (xs : List Item) (next : Option ℕ) → lead_of (Q xs) next ≡ lead_of xs next
lead_of_originless [] next = refl
lead_of_originless (x ∷ xs) next = ap (lead_by x.kind) (lead_of_originless xs next)

lead_in_originless : (bs : List Block) (n : ℕ) → lead_in (P bs) n ≡ lead_in bs n
lead_in_originless [] n = refl
lead_in_originless (b ∷ bs) n =
    let f = first_id_originless bs in
    let es = lead_in_originless bs n in
    let e = lead_of_originless b.items (first_id bs) in
    λ i. cond (nat_eq b.id n) ((ap (lead_of (Q b.items)) f ∙ e) i) (es i)

pub lead_originless : (bs : List Block) (n : ℕ) → lead (P bs) n ≡ lead bs n
lead_originless [] n = refl
lead_originless (b ∷ bs) n = lead_in_originless bs n

else_way_originless : (xs : List Item) (fall : Option ℕ) → else_way (first_of (Q xs)) fall ≡ else_way (first_of xs) fall
else_way_originless [] fall = refl
else_way_originless (x ∷ xs) fall = refl

ways_of_originless : (xs : List Item) (fall : Option ℕ) → ways_of (Q xs) fall ≡ ways_of xs fall
ways_of_originless [] fall = refl
ways_of_originless (x ∷ xs) fall = by_exit (exit_of x.kind) (ways_of_originless xs fall) where
  by_exit : (e : Exit) → ways_of (Q xs) fall ≡ ways_of xs fall →
      ways_by e (first_of (Q xs)) (ways_of (Q xs) fall) fall ≡ ways_by e (first_of xs) (ways_of xs fall) fall
  by_exit Onward h = h
  by_exit (Perhaps n) h = ap (λ (z : Option ℕ). record { branch = Some n; onward = z }) (else_way_originless xs fall)
  by_exit (Always n) h = refl
  by_exit Final h = refl

pub ways_in_originless : (bs : List Block) (n : ℕ) → ways_in (P bs) n ≡ ways_in bs n
ways_in_originless [] n = refl
ways_in_originless (b ∷ bs) n =
    let f = first_id_originless bs in
    let es = ways_in_originless bs n in
    let e = ways_of_originless b.items (first_id bs) in
    λ i. cond (nat_eq b.id n) (Some ((ap (ways_of (Q b.items)) f ∙ e) i)) (es i)

-- ---- ends written anew, but for places

origin_twice : (o : Origin) → originless_origin (originless_origin o) ≡ originless_origin o
origin_twice (Kept p) = refl
origin_twice (Before p) = refl

item_twice : (x : Item) → originless_item (originless_item x) ≡ originless_item x
item_twice x = let e = origin_twice x.origin in λ i. record (originless_item x) { origin = e i }

sent_twice : (n : ℕ) (x : Item) → originless_item (sent n (originless_item x)) ≡ originless_item (sent n x)
sent_twice n x = let e = origin_twice x.origin in λ i. record (originless_item (sent n x)) { origin = e i }

turned_twice : (n : ℕ) (x : Item) → originless_item (turned n (originless_item x)) ≡ originless_item (turned n x)
turned_twice n x = let e = origin_twice x.origin in λ i. record (originless_item (turned n x)) { origin = e i }

jump_twice : (s t : Pos) (xs : List Item) (n : ℕ) → originless_item (jump_at_end s (first_of (Q xs)) n) ≡ originless_item (jump_at_end t (first_of xs) n)
jump_twice s t [] n = refl
jump_twice s t (x ∷ xs) n = sent_twice n x

branch_jump_twice : (s t : Pos) (x : Item) (xs : List Item) (n : ℕ) →
    originless_item (jump_for_branch s (originless_item x) (first_of (Q xs)) n) ≡ originless_item (jump_for_branch t x (first_of xs) n)
branch_jump_twice s t x [] n = let e = origin_twice x.origin in λ i. record (originless_item (jump_for_branch t x None n)) { origin = e i }
branch_jump_twice s t x (y ∷ ys) n = let e = origin_twice x.origin in λ i. record (originless_item (jump_for_branch t x (Some y) n)) { origin = e i }

needed_twice : (next : Option ℕ) (n : ℕ) (i j : Item) → originless_item i ≡ originless_item j → Q (if_needed next n i) ≡ Q (if_needed next n j)
needed_twice next n i j e = by_test (is_number next n) where
  by_test : (z : Bool) → Q (cond z [] (i ∷ [])) ≡ Q (cond z [] (j ∷ []))
  by_test true = refl
  by_test false = ap (λ (x : Item). x ∷ []) e

branch_twice : (next : Option ℕ) (s t : Pos) (x : Item) (xs : List Item) (a b : ℕ) →
    Q (branch_tail next s (originless_item x) (first_of (Q xs)) a b) ≡ Q (branch_tail next t x (first_of xs) a b)
branch_twice next s t x xs a b = by_tests (nat_eq a b) (is_number next b) (is_number next a) where
  by_tests : (u v w : Bool) →
      Q (cond u (if_needed next b (jump_for_branch s (originless_item x) (first_of (Q xs)) b)) (cond v (sent a (originless_item x) ∷ [])
      (cond w (turned b (originless_item x) ∷ []) (sent a (originless_item x) ∷ jump_at_end s (first_of (Q xs)) b ∷ [])))) ≡
      Q (cond u (if_needed next b (jump_for_branch t x (first_of xs) b)) (cond v (sent a x ∷ [])
      (cond w (turned b x ∷ []) (sent a x ∷ jump_at_end t (first_of xs) b ∷ []))))
  by_tests true v w = needed_twice next b _ _ (branch_jump_twice s t x xs b)
  by_tests false true w = ap (λ (i : Item). i ∷ []) (sent_twice a x)
  by_tests false false true = ap (λ (i : Item). i ∷ []) (turned_twice b x)
  by_tests false false false = let e = sent_twice a x in let k = jump_twice s t xs b in λ i. e i ∷ k i ∷ []

module _ (end : ℕ → ℕ) (next fall : Option ℕ) (s t : Pos) where
  rewritten_twice : (xs : List Item) → Q (rewritten end next fall s (Q xs)) ≡ Q (rewritten end next fall t xs)
  rewritten_twice [] = by_fall fall where
    by_fall : (o : Option ℕ) → Q (plain_tail end next fall s None o) ≡ Q (plain_tail end next fall t None o)
    by_fall None = refl
    by_fall (Some n) = needed_twice next (end n) _ _ (jump_twice s t [] (end n))
  rewritten_twice (x ∷ xs) = by_exit (exit_of x.kind) (rewritten_twice xs) where
    by_to : (n : ℕ) (o : Option ℕ) →
        Q (branch_tail_to end next fall s (originless_item x) (first_of (Q xs)) n o) ≡ Q (branch_tail_to end next fall t x (first_of xs) n o)
    by_to n None = ap (λ (i : Item). i ∷ []) (item_twice x)
    by_to n (Some m) = branch_twice next s t x xs (end n) (end m)

    by_exit : (e : Exit) → Q (rewritten end next fall s (Q xs)) ≡ Q (rewritten end next fall t xs) →
        Q (tail_by end next fall s e (originless_item x) (first_of (Q xs)) (rewritten end next fall s (Q xs))) ≡
        Q (tail_by end next fall t e x (first_of xs) (rewritten end next fall t xs))
    by_exit Onward h = let e = item_twice x in λ i. e i ∷ h i
    by_exit (Perhaps n) h =
        ap (λ (o : Option ℕ). Q (branch_tail_to end next fall s (originless_item x) (first_of (Q xs)) n o)) (else_way_originless xs fall) ∙
        by_to n (else_way (first_of xs) fall)
    by_exit (Always n) h = needed_twice next (end n) _ _ (jump_twice s t (x ∷ []) (end n))
    by_exit Final h = ap (λ (i : Item). i ∷ []) (item_twice x)

staying_originless : (stays : ℕ → Bool) (bs : List Block) → staying stays (P bs) ≡ P (staying stays bs)
staying_originless stays [] = refl
staying_originless stays (b ∷ bs) = by_test (stays b.id) (staying_originless stays bs) where
  by_test : (z : Bool) → staying stays (P bs) ≡ P (staying stays bs) →
      cond z (originless_block b ∷ staying stays (P bs)) (staying stays (P bs)) ≡ P (cond z (b ∷ staying stays bs) (staying stays bs))
  by_test true h = ap (λ (cs : List Block). originless_block b ∷ cs) h
  by_test false h = h

pub folded_twice : (end : ℕ → ℕ) (stays : ℕ → Bool) (bs : List Block) → P (folded_blocks end stays (P bs)) ≡ P (folded_blocks end stays bs)
folded_twice end stays [] = refl
folded_twice end stays (b ∷ bs) = by_test (stays b.id) (folded_twice end stays bs) where
  next : first_id (staying stays (P bs)) ≡ first_id (staying stays bs)
  next = ap first_id (staying_originless stays bs) ∙ first_id_originless (staying stays bs)

  items : Q (rewritten end (first_id (staying stays (P bs))) (first_id (P bs)) (record { block = b.id; item = 0 }) (Q b.items)) ≡
      Q (rewritten end (first_id (staying stays bs)) (first_id bs) (record { block = b.id; item = b.source_end }) b.items)
  items = let f = first_id_originless bs in
      (λ i. Q (rewritten end (next i) (f i) (record { block = b.id; item = 0 }) (Q b.items))) ∙
      rewritten_twice end (first_id (staying stays bs)) (first_id bs) (record { block = b.id; item = 0 }) (record { block = b.id; item = b.source_end }) b.items

  by_test : (z : Bool) → P (folded_blocks end stays (P bs)) ≡ P (folded_blocks end stays bs) →
      P (cond z (folded_block end (first_id (staying stays (P bs))) (first_id (P bs)) (originless_block b) ∷ folded_blocks end stays (P bs))
      (folded_blocks end stays (P bs))) ≡
      P (cond z (folded_block end (first_id (staying stays bs)) (first_id bs) b ∷ folded_blocks end stays bs) (folded_blocks end stays bs))
  by_test true h = λ i. record { id = b.id; items = items i; source_end = 0 } ∷ h i
  by_test false h = h

pub sees_code : SeesCodeAlone IsFolded
sees_code f f' g g' alike (a, p) (b, q) =
    let blocks : P f.blocks ≡ P f'.blocks = ap (λ (z : Function). z.blocks) alike in
    let leads : (n : ℕ) → lead f.blocks n ≡ lead f'.blocks n =
    λ n. sym (lead_originless f.blocks n) ∙ ap (λ (z : List Block). lead z n) blocks ∙ lead_originless f'.blocks n in
    let e : a.end ≡ b.end = same_ends f.blocks f'.blocks g.blocks g'.blocks a b leads in
    let s : a.stays ≡ b.stays = same_stays f.blocks f'.blocks g.blocks g'.blocks a b e
    (sym (first_id_originless f.blocks) ∙ ap first_id blocks ∙ first_id_originless f'.blocks)
    (λ n. sym (ways_in_originless f.blocks n) ∙ ap (λ (z : List Block). ways_in z n) blocks ∙ ways_in_originless f'.blocks n) in
    let made : P g.blocks ≡ P g'.blocks =
    ap P a.blocks ∙ sym (folded_twice a.end a.stays f.blocks) ∙ (λ i. P (folded_blocks (e i) (s i) (blocks i))) ∙
    folded_twice b.end b.stays f'.blocks ∙ ap P (sym b.blocks) in
    ap originless p ∙ (λ i. record (alike i) { blocks = made i }) ∙ ap originless (sym q)
