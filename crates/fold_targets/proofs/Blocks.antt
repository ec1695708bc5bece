-- Blocks among which numbers differ.
use Rattle.std.proofs.Common.{◌≡◌, ℕ, suc, List, [], ◌∷◌, ◌++◌, Some, None, Bool, cond, nat_eq, refl, sym, ap, ◌∙◌}
use Rattle.std.proofs.Common.{inl, inr, arith, append_assoc}
use Rattle.std.proofs.lemmas.Bool.{ne_eqb}
use Rattle.std.specs.List.{slice_get}
use Rattle.mir_func.specs.declared.block.Block.{Block}
use Rattle.mir_func.specs.Sound.{AreApart, ids_of}
use Rattle.fold_targets.specs.Leads.{first_id, lead_of, lead_in}
use Rattle.fold_targets.proofs.Ways.{test_of}

pub apart_tail : (n : ℕ) (ns : List ℕ) → AreApart (n ∷ ns) → AreApart ns
apart_tail n ns h i j m e f = let k : suc i ≡ suc j = h (suc i) (suc j) m e f in omega arith

apart_rest : (xs ys : List Block) → AreApart (ids_of (xs ++ ys)) → AreApart (ids_of ys)
apart_rest [] ys h = h
apart_rest (x ∷ xs) ys h = apart_rest xs ys (apart_tail x.id (ids_of (xs ++ ys)) h)

-- no later block has the first one's number
no_later : (n : ℕ) (ns : List ℕ) (j : ℕ) → AreApart (n ∷ ns) → slice_get ns j ≡ Some n → ⊥
no_later n ns j h e = let k : 0 ≡ suc j = h 0 (suc j) n refl e in omega arith

lead_of_none : (n : ℕ) (bs : List Block) → ((j : ℕ) → slice_get (ids_of bs) j ≡ Some n → ⊥) → lead_in bs n ≡ None
lead_of_none n [] h = refl
lead_of_none n (b ∷ bs) h =
    ap (λ (z : Bool). cond z (lead_of b.items (first_id bs)) (lead_in bs n)) (ne_eqb b.id n (λ e. h 0 (ap (λ (z : ℕ). Some z) e))) ∙
    lead_of_none n bs (λ j e. h (suc j) e)

-- a block that leads nowhere adds nothing
pub leads_no_more : (before : List Block) (b : Block) (done : List Block) → AreApart (ids_of (before ++ b ∷ done)) → lead_of b.items (first_id done) ≡ None →
    (q : ℕ) → lead_in done q ≡ lead_in (b ∷ done) q
leads_no_more before b done apart none q = elim (test_of b.id q (nat_eq b.id q) refl) [
  | inl w ↦ (let out : lead_in done q ≡ None = lead_of_none q done
      (λ j e. no_later b.id (ids_of done) j (apart_rest before (b ∷ done) apart) (e ∙ ap (λ (z : ℕ). Some z) (sym w.1))) in
      out ∙ sym none ∙ sym (ap (λ (z : Bool). cond z (lead_of b.items (first_id done)) (lead_in done q)) w.0))
  | inr w ↦ sym (ap (λ (z : Bool). cond z (lead_of b.items (first_id done)) (lead_in done q)) w.0)
]

pub blocks_before : (rest before : List Block) (b : Block) (done all : List Block) → rest ≡ before ++ b ∷ [] → rest ++ done ≡ all →
    before ++ b ∷ done ≡ all
blocks_before rest before b done all e h = sym (append_assoc before (b ∷ []) done) ∙ ap (λ (z : List Block). z ++ done) (sym e) ∙ h
