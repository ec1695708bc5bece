-- What loops have after one more element.
use Rattle.std.proofs.Common.{◌≡◌, ℕ, ◌+◌, ◌<◌, List, [], ◌∷◌, ◌++◌}
use Rattle.std.proofs.Common.{length, get_or, take, Option}
use Rattle.std.proofs.Common.{cond, append_assoc, append-nil, sym, ap, ◌∙◌}
use Rattle.std.proofs.lemmas.List.{take_more}
use Rattle.mir_func.specs.declared.block.Block.{Block}
use Rattle.fold_rule_proof.specs.fold_rule.Tails.{is_number}
use Rattle.fold_undef.specs.declared.kill.Kill.{Kill}
use Rattle.fold_undef.specs.Kill.{kills_in}
use Rattle.fold_undef.specs.steps.Gathered.{kills_to}

pub next_take : {X : Type 0} (xs : List X) (i : ℕ) (x : X) → i < length xs → x ≡ get_or xs i x → take (i + 1) xs ≡ take i xs ++ x ∷ []
next_take xs i x l e = take_more xs i x l ∙ ap (λ (y : _). take i xs ++ y ∷ []) (sym e)

to_more : (past : ℕ → Option ℕ) (e : ℕ) (bs : List Block) (b : Block) →
    kills_to past e (bs ++ b ∷ []) ≡ kills_to past e bs ++ cond (is_number (past b.id) e) (kills_in b.items) []
to_more past e [] b = append-nil (cond (is_number (past b.id) e) (kills_in b.items) [])
to_more past e (c ∷ bs) b =
    let here : List Kill = cond (is_number (past c.id) e) (kills_in c.items) [] in
    ap (λ (ks : List Kill). here ++ ks) (to_more past e bs b) ∙
    sym (append_assoc here (kills_to past e bs) (cond (is_number (past b.id) e) (kills_in b.items) []))

pub to_turn : (past : ℕ → Option ℕ) (e : ℕ) (bs : List Block) (i : ℕ) (b : Block) → i < length bs → b ≡ get_or bs i b →
    kills_to past e (take (i + 1) bs) ≡ kills_to past e (take i bs) ++ cond (is_number (past b.id) e) (kills_in b.items) []
to_turn past e bs i b l is = ap (kills_to past e) (next_take bs i b l is) ∙ to_more past e (take i bs) b
