-- What predecessors hand on, one after the other.
use Rattle.std.proofs.Common.{◌≡◌, ℕ, ◌+◌, ◌<◌, List, [], ◌∷◌, ◌++◌, length, take, refl, sym, ap, ◌∙◌, subst, append_assoc}
use Rattle.std.specs.Prelude.{slice_index_or, slice_get, Some}
use Rattle.std.proofs.lemmas.Option.{slice_get-get_or}
use Rattle.std.proofs.lemmas.List.{take_more}
use Rattle.value_solver.specs.declared.entry.BlockEntry.{BlockEntry}
use Rattle.value_solver.specs.declared.flow.Flow.{Flow}
use Rattle.value_solver.specs.Joining.{Hand, IsJoined}
use Rattle.value_solver.specs.Hands.{hand_by, hand_of, hands_of, handed, first_hand}

pub append_none : {A : Type 0} (xs : List A) → xs ++ [] ≡ xs
append_none [] = refl
append_none (x ∷ xs) = ap (λ (z : List _). x ∷ z) (append_none xs)

hands_push : (flows : List Flow) (entries : List BlockEntry) (ps : List ℕ) (p : ℕ) →
    hands_of flows entries (ps ++ p ∷ []) ≡ hands_of flows entries ps ++ hand_of flows entries p
hands_push flows entries [] p = append_none (hand_of flows entries p)
hands_push flows entries (q ∷ ps) p =
    ap (λ (z : List Hand). hand_of flows entries q ++ z) (hands_push flows entries ps p)
    ∙ sym (append_assoc (hand_of flows entries q) (hands_of flows entries ps) (hand_of flows entries p))

pub joined_more : (n : ℕ) (start : BlockEntry) (flows : List Flow) (entries : List BlockEntry) (b : ℕ) (ps : List ℕ) (k : ℕ) (joined next e : BlockEntry)
    (f : Flow) →
    k < length ps → slice_index_or ps k 0 < length entries → slice_index_or ps k 0 < length flows → e ≡ slice_index_or entries (slice_index_or ps k 0) e →
    f ≡ slice_index_or flows (slice_index_or ps k 0) f → IsJoined n (handed start flows entries b (take k ps)) joined →
    ((hands : List Hand) → IsJoined n hands joined → IsJoined n (hands ++ hand_by (Some e) (Some f)) next) →
    IsJoined n (handed start flows entries b (take (k + 1) ps)) next
joined_more n start flows entries b ps k joined next e f less pe pf is_e is_f j more =
    let p = slice_index_or ps k 0 in
    let he : slice_get entries p ≡ Some e = slice_get-get_or entries p e pe ∙ ap Some (sym is_e) in
    let hf : slice_get flows p ≡ Some f = slice_get-get_or flows p f pf ∙ ap Some (sym is_f) in
    let same : handed start flows entries b (take (k + 1) ps) ≡ handed start flows entries b (take k ps) ++ hand_by (Some e) (Some f) =
    ap (handed start flows entries b) (take_more ps k 0 less)
    ∙ ap (λ (z : List Hand). first_hand start b ++ z) (hands_push flows entries (take k ps) p)
    ∙ sym (append_assoc (first_hand start b) (hands_of flows entries (take k ps)) (hand_of flows entries p))
    ∙ (λ z. handed start flows entries b (take k ps) ++ hand_by (he z) (hf z)) in
    subst (λ (hs : List Hand). IsJoined n hs next) (sym same) (more (handed start flows entries b (take k ps)) j)
