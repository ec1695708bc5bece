-- Folding and leaving out debug items.
use Rattle.std.proofs.Common.{◌≡◌, ℕ, List, [], ◌∷◌, All, Option, Some, None, Bool, true, false, cond, nat_eq, refl, sym, ap, ◌∙◌, subst}
use Rattle.std.proofs.lemmas.List.Elements.{All-head, All-tail}
use Rattle.rv64_instr.specs.Row.{row_of}
use Rattle.rv64_instr.specs.Instruction.{Instruction}
use Rattle.mir_func.specs.declared.block.Block.{Block}
use Rattle.mir_func.specs.declared.exit.Exit.{Exit}
use Rattle.mir_func.specs.declared.exit.Exit.TheVariants.{Onward, Perhaps, Always, Final}
use Rattle.mir_func.specs.declared.item.Item.{Item}
use Rattle.mir_func.specs.declared.item.ItemKind.{ItemKind}
use Rattle.mir_func.specs.declared.item.ItemKind.TheVariants.{Code, Mark, Phi}
use Rattle.mir_func.specs.declared.position.Pos.{Pos}
use Rattle.mir_func.specs.declared.position.Origin.{Origin}
use Rattle.mir_func.specs.declared.location.Loc.{Loc}
use Rattle.mir_func.specs.Exits.{row_exit, exit_of, IsAlways}
use Rattle.mir_func.specs.Sound.{IsJumpAtMost, MayFollow, EndsWell}
use Rattle.mir_func.specs.Strip.{stripped_items, stripped_block, stripped_blocks, stripped}
use Rattle.fold_targets.specs.Ways.{EndsAt}
use Rattle.fold_targets.specs.Leads.{first_id, lead_by, lead_of, lead_in, lead}
use Rattle.fold_rule.specs.Turned.{sent, turned}
use Rattle.fold_rule.specs.Tails.{first_of, else_way, ways_by, ways_of, is_number, if_needed, jump_at_end, jump_for_branch, branch_tail, plain_tail}
use Rattle.fold_rule.specs.Tails.{branch_tail_to, tail_by, rewritten}
use Rattle.fold_rule.specs.Reached.{ways_in}
use Rattle.fold_rule.specs.Rule.{folded_block, staying, folded_blocks, AreFolded}
use Rattle.fold_rule_proof.specs.Strips.{FoldsStripped}
use Rattle.fold_rule_proof.proofs.One.{reached_same}

abbrev S : List Item → List Item
S xs = stripped_items xs

abbrev item_of : ItemKind → Origin → Loc → Item
item_of k o l = record { kind = k; origin = o; loc = l }

first_id_stripped : (bs : List Block) → first_id (stripped_blocks bs) ≡ first_id bs
first_id_stripped [] = refl
first_id_stripped (b ∷ bs) = refl

lead_of_stripped : (xs : List Item) (next : Option ℕ) → lead_of (S xs) next ≡ lead_of xs next
lead_of_stripped [] next = refl
lead_of_stripped (x ∷ xs) next = by_kind x.kind (lead_of_stripped xs next) where
  by_kind : (k : ItemKind) → lead_of (S xs) next ≡ lead_of xs next → lead_of (S (item_of k x.origin x.loc ∷ xs)) next ≡ lead_by k (lead_of xs next)
  by_kind (Code i n) h = refl
  by_kind (Mark v m) h = h
  by_kind (Phi p n) h = h

lead_in_stripped : (bs : List Block) (n : ℕ) → lead_in (stripped_blocks bs) n ≡ lead_in bs n
lead_in_stripped [] n = refl
lead_in_stripped (b ∷ bs) n =
    let f = first_id_stripped bs in
    let es = lead_in_stripped bs n in
    let e = lead_of_stripped b.items (first_id bs) in
    λ i. cond (nat_eq b.id n) ((ap (lead_of (S b.items)) f ∙ e) i) (es i)

lead_stripped : (bs : List Block) (n : ℕ) → lead (stripped_blocks bs) n ≡ lead bs n
lead_stripped [] n = refl
lead_stripped (b ∷ bs) n = lead_in_stripped bs n

else_way_stripped : (xs : List Item) (fall : Option ℕ) → IsJumpAtMost xs → else_way (first_of (S xs)) fall ≡ else_way (first_of xs) fall
else_way_stripped [] fall h = refl
else_way_stripped (j ∷ []) fall h = by_kind j.kind h where
  by_kind : (k : ItemKind) → IsAlways (exit_of k) →
      else_way (first_of (S (item_of k j.origin j.loc ∷ []))) fall ≡ else_way (Some (item_of k j.origin j.loc)) fall
  by_kind (Code i n) h = refl
  by_kind (Mark v m) h = absurd h
  by_kind (Phi p n) h = absurd h
else_way_stripped (j ∷ y ∷ ys) fall h = absurd h

ways_of_stripped : (xs : List Item) (fall : Option ℕ) → EndsWell xs → ways_of (S xs) fall ≡ ways_of xs fall
ways_of_stripped [] fall h = refl
ways_of_stripped (x ∷ xs) fall h = by_kind x.kind h.0 (ways_of_stripped xs fall h.1) where
  by_exit : (e : Exit) → MayFollow e xs → ways_of (S xs) fall ≡ ways_of xs fall →
      ways_by e (first_of (S xs)) (ways_of (S xs) fall) fall ≡ ways_by e (first_of xs) (ways_of xs fall) fall
  by_exit Onward may h = h
  by_exit (Perhaps n) may h = ap (λ (z : Option ℕ). record { branch = Some n; onward = z }) (else_way_stripped xs fall may)
  by_exit (Always n) may h = refl
  by_exit Final may h = refl

  by_kind : (k : ItemKind) → MayFollow (exit_of k) xs → ways_of (S xs) fall ≡ ways_of xs fall →
      ways_of (S (item_of k x.origin x.loc ∷ xs)) fall ≡ ways_by (exit_of k) (first_of xs) (ways_of xs fall) fall
  by_kind (Code i n) may h = by_exit (row_exit (row_of i)) may h
  by_kind (Mark v m) may h = h
  by_kind (Phi p n) may h = h

ways_in_stripped : (bs : List Block) → All (λ (b : Block). EndsWell b.items) bs → (n : ℕ) → ways_in (stripped_blocks bs) n ≡ ways_in bs n
ways_in_stripped [] all n = refl
ways_in_stripped (b ∷ bs) all n =
    let f = first_id_stripped bs in
    let es = ways_in_stripped bs (All-tail (λ (b : Block). EndsWell b.items) b bs all) n in
    let e = ways_of_stripped b.items (first_id bs) (All-head (λ (b : Block). EndsWell b.items) b bs all) in
    λ i. cond (nat_eq b.id n) (Some ((ap (ways_of (S b.items)) f ∙ e) i)) (es i)

-- ---- ends written anew, without debug items

jump_stripped : (s : Pos) (xs : List Item) (n : ℕ) (rest : List Item) → IsJumpAtMost xs →
    S (jump_at_end s (first_of xs) n ∷ rest) ≡ jump_at_end s (first_of (S xs)) n ∷ S rest
jump_stripped s [] n rest h = refl
jump_stripped s (j ∷ []) n rest h = by_kind j.kind h where
  by_kind : (k : ItemKind) → IsAlways (exit_of k) →
      S (sent n (item_of k j.origin j.loc) ∷ rest) ≡ jump_at_end s (first_of (S (item_of k j.origin j.loc ∷ []))) n ∷ S rest
  by_kind (Code i m) h = refl
  by_kind (Mark v m) h = absurd h
  by_kind (Phi p m) h = absurd h
jump_stripped s (j ∷ y ∷ ys) n rest h = absurd h

branch_jump_stripped : (s : Pos) (x y : Item) (xs : List Item) (n : ℕ) → x.origin ≡ y.origin → x.loc ≡ y.loc → IsJumpAtMost xs →
    S (jump_for_branch s x (first_of xs) n ∷ []) ≡ jump_for_branch s y (first_of (S xs)) n ∷ []
branch_jump_stripped s x y [] n o l h = λ i. jump_for_branch s (record x { origin = o i; loc = l i }) None n ∷ []
branch_jump_stripped s x y (j ∷ []) n o l h = by_kind j.kind h where
  by_kind : (k : ItemKind) → IsAlways (exit_of k) →
      S (jump_for_branch s x (Some (item_of k j.origin j.loc)) n ∷ []) ≡ jump_for_branch s y (first_of (S (item_of k j.origin j.loc ∷ []))) n ∷ []
  by_kind (Code i m) h = λ t. jump_for_branch s (record x { origin = o t; loc = l t }) (Some (item_of (Code i None) j.origin j.loc)) n ∷ []
  by_kind (Mark v m) h = absurd h
  by_kind (Phi p m) h = absurd h
branch_jump_stripped s x y (j ∷ z ∷ zs) n o l h = absurd h

needed_stripped : (next : Option ℕ) (n : ℕ) (i j : Item) → S (i ∷ []) ≡ j ∷ [] → S (if_needed next n i) ≡ if_needed next n j
needed_stripped next n i j e = by_test (is_number next n) where
  by_test : (z : Bool) → S (cond z [] (i ∷ [])) ≡ cond z [] (j ∷ [])
  by_test true = refl
  by_test false = e

module _ (end : ℕ → ℕ) (next fall : Option ℕ) (s : Pos) where
  branch_stripped : (i : Instruction) (k : Option ℕ) (o : Origin) (l : Loc) (xs : List Item) (a b : ℕ) → IsJumpAtMost xs →
      S (branch_tail next s (item_of (Code i k) o l) (first_of xs) a b) ≡ branch_tail next s (item_of (Code i None) o l) (first_of (S xs)) a b
  branch_stripped i k o l xs a b h = by_tests (nat_eq a b) (is_number next b) (is_number next a) where
    x : Item
    x = item_of (Code i k) o l

    y : Item
    y = item_of (Code i None) o l

    by_tests : (u v w : Bool) →
        S (cond u (if_needed next b (jump_for_branch s x (first_of xs) b)) (cond v (sent a x ∷ [])
        (cond w (turned b x ∷ []) (sent a x ∷ jump_at_end s (first_of xs) b ∷ [])))) ≡
        cond u (if_needed next b (jump_for_branch s y (first_of (S xs)) b)) (cond v (sent a y ∷ [])
        (cond w (turned b y ∷ []) (sent a y ∷ jump_at_end s (first_of (S xs)) b ∷ [])))
    by_tests true v w = needed_stripped next b _ _ (branch_jump_stripped s x y xs b refl refl h)
    by_tests false true w = refl
    by_tests false false true = refl
    by_tests false false false = ap (λ (zs : List Item). sent a y ∷ zs) (jump_stripped s xs b [] h)

  rewritten_stripped : (xs : List Item) → EndsWell xs → S (rewritten end next fall s xs) ≡ rewritten end next fall s (S xs)
  rewritten_stripped [] h = by_fall fall where
    by_fall : (o : Option ℕ) → S (plain_tail end next fall s None o) ≡ plain_tail end next fall s None o
    by_fall None = refl
    by_fall (Some n) = needed_stripped next (end n) _ _ refl
  rewritten_stripped (x ∷ xs) h = by_kind x.kind h.0 (rewritten_stripped xs h.1) where
    by_to : (i : Instruction) (k : Option ℕ) (n : ℕ) (o : Option ℕ) → IsJumpAtMost xs →
        S (branch_tail_to end next fall s (item_of (Code i k) x.origin x.loc) (first_of xs) n o) ≡
        branch_tail_to end next fall s (item_of (Code i None) x.origin x.loc) (first_of (S xs)) n o
    by_to i k n None may = refl
    by_to i k n (Some m) may = branch_stripped i k x.origin x.loc xs (end n) (end m) may

    by_exit : (i : Instruction) (k : Option ℕ) (e : Exit) → MayFollow e xs → S (rewritten end next fall s xs) ≡ rewritten end next fall s (S xs) →
        S (tail_by end next fall s e (item_of (Code i k) x.origin x.loc) (first_of xs) (rewritten end next fall s xs)) ≡
        tail_by end next fall s e (item_of (Code i None) x.origin x.loc) (first_of (S xs)) (rewritten end next fall s (S xs))
    by_exit i k Onward may h = ap (λ (ys : List Item). item_of (Code i None) x.origin x.loc ∷ ys) h
    by_exit i k (Perhaps n) may h =
        by_to i k n (else_way (first_of xs) fall) may ∙
        ap (branch_tail_to end next fall s (item_of (Code i None) x.origin x.loc) (first_of (S xs)) n) (sym (else_way_stripped xs fall may))
    by_exit i k (Always n) may h = needed_stripped next (end n) _ _ refl
    by_exit i k Final may h = refl

    by_kind : (k : ItemKind) → MayFollow (exit_of k) xs → S (rewritten end next fall s xs) ≡ rewritten end next fall s (S xs) →
        S (tail_by end next fall s (exit_of k) (item_of k x.origin x.loc) (first_of xs) (rewritten end next fall s xs)) ≡
        rewritten end next fall s (S (item_of k x.origin x.loc ∷ xs))
    by_kind (Code i n) may h = by_exit i n (row_exit (row_of i)) may h
    by_kind (Mark v m) may h = h
    by_kind (Phi p n) may h = h

staying_stripped : (stays : ℕ → Bool) (bs : List Block) → staying stays (stripped_blocks bs) ≡ stripped_blocks (staying stays bs)
staying_stripped stays [] = refl
staying_stripped stays (b ∷ bs) = by_test (stays b.id) (staying_stripped stays bs) where
  by_test : (z : Bool) → staying stays (stripped_blocks bs) ≡ stripped_blocks (staying stays bs) →
      cond z (stripped_block b ∷ staying stays (stripped_blocks bs)) (staying stays (stripped_blocks bs)) ≡
      stripped_blocks (cond z (b ∷ staying stays bs) (staying stays bs))
  by_test true h = ap (λ (cs : List Block). stripped_block b ∷ cs) h
  by_test false h = h

folded_stripped : (end : ℕ → ℕ) (stays : ℕ → Bool) (bs : List Block) → All (λ (b : Block). EndsWell b.items) bs →
    stripped_blocks (folded_blocks end stays bs) ≡ folded_blocks end stays (stripped_blocks bs)
folded_stripped end stays [] all = refl
folded_stripped end stays (b ∷ bs) all =
    by_test (stays b.id) (All-head (λ (b : Block). EndsWell b.items) b bs all)
    (folded_stripped end stays bs (All-tail (λ (b : Block). EndsWell b.items) b bs all)) where
      next : first_id (staying stays bs) ≡ first_id (staying stays (stripped_blocks bs))
      next = sym (ap first_id (staying_stripped stays bs) ∙ first_id_stripped (staying stays bs))

      items : EndsWell b.items → S (rewritten end (first_id (staying stays bs)) (first_id bs) (record { block = b.id; item = b.source_end }) b.items) ≡
          rewritten end (first_id (staying stays (stripped_blocks bs))) (first_id (stripped_blocks bs)) (record { block = b.id; item = b.source_end })
          (S b.items)
      items h = let f = sym (first_id_stripped bs) in
          rewritten_stripped end (first_id (staying stays bs)) (first_id bs) (record { block = b.id; item = b.source_end }) b.items h ∙
          (λ i. rewritten end (next i) (f i) (record { block = b.id; item = b.source_end }) (S b.items))

      by_test : (z : Bool) → EndsWell b.items → stripped_blocks (folded_blocks end stays bs) ≡ folded_blocks end stays (stripped_blocks bs) →
          stripped_blocks (cond z (folded_block end (first_id (staying stays bs)) (first_id bs) b ∷ folded_blocks end stays bs) (folded_blocks end stays bs)) ≡
          cond z (folded_block end (first_id (staying stays (stripped_blocks bs))) (first_id (stripped_blocks bs)) (stripped_block b) ∷
          folded_blocks end stays (stripped_blocks bs)) (folded_blocks end stays (stripped_blocks bs))
      by_test true w h = let e = items w in λ i. record { id = b.id; items = e i; source_end = b.source_end } ∷ h i
      by_test false w h = h

pub are_folded_stripped : (old new : List Block) → All (λ (b : Block). EndsWell b.items) old → AreFolded old new →
    AreFolded (stripped_blocks old) (stripped_blocks new)
are_folded_stripped old new ends a = record {
  end = a.end;
  stays = a.stays;
  ends = λ n. subst (λ (f : ℕ → Option ℕ). EndsAt f n (a.end n)) same_lead (a.ends n);
  reached = λ n. (
    λ h. reached_same old (stripped_blocks old) a.end (sym (first_id_stripped old)) (λ m. sym (ways_in_stripped old ends m)) ((a.reached n).0 h),
    λ r. (a.reached n).1 (reached_same (stripped_blocks old) old a.end (first_id_stripped old) (ways_in_stripped old ends) r),
  );
  blocks = ap stripped_blocks a.blocks ∙ folded_stripped a.end a.stays old ends;
} where
  same_lead : lead old ≡ lead (stripped_blocks old)
  same_lead = λ i n. sym (lead_stripped old n) i

pub strips : FoldsStripped
strips f g sound (a, p) = (are_folded_stripped f.blocks g.blocks sound.ends a, ap stripped p)
