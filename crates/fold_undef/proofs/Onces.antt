-- Kills, each once, with one more.
use Rattle.std.proofs.Common.{◌≡◌, ℕ, List, [], ◌∷◌, ◌++◌, map, filter, Bool, true, false, cond, not, ◌||◌, append-nil, refl, sym, ap, ◌∙◌}
use Rattle.std.specs.List.{list_any}
use Rattle.mir_func.specs.declared.item.Item.{Item}
use Rattle.fold_rule_proof.specs.Kills.{kills_same, once}
use Rattle.fold_undef.specs.declared.kill.Kill.{Kill}
use Rattle.fold_undef.specs.declared.kill.Kill.TheVariants.{Part, Number}
use Rattle.fold_undef.specs.Kill.{kill_item, is_same_kill}

filter_more : (p : Item → Bool) (xs : List Item) (x : Item) → filter p (xs ++ x ∷ []) ≡ filter p xs ++ cond (p x) (x ∷ []) []
filter_more p [] x = refl
filter_more p (y ∷ ys) x = by_test (p y) (filter_more p ys x) where
  by_test : (z : Bool) → filter p (ys ++ x ∷ []) ≡ filter p ys ++ cond (p x) (x ∷ []) [] →
      cond z (y ∷ filter p (ys ++ x ∷ [])) (filter p (ys ++ x ∷ [])) ≡ cond z (y ∷ filter p ys) (filter p ys) ++ cond (p x) (x ∷ []) []
  by_test true h = ap (λ (zs : List Item). y ∷ zs) h
  by_test false h = h

abbrev is_there : Item → List Item → Bool
is_there x ys = list_any (λ y. kills_same y.kind x.kind) ys

once_more : (xs : List Item) (x : Item) → once (xs ++ x ∷ []) ≡ once xs ++ cond (is_there x xs) [] (x ∷ [])
once_more [] x = refl
once_more (y ∷ ys) x =
    ap (λ (zs : List Item). y ∷ filter p zs) (once_more ys x) ∙
    ap (λ (zs : List Item). y ∷ zs) (step (kills_same y.kind x.kind) (is_there x ys) (once ys) refl) where
      p : Item → Bool
      p j = not (kills_same y.kind j.kind)

      step : (s a : Bool) (us : List Item) → kills_same y.kind x.kind ≡ s →
          filter p (us ++ cond a [] (x ∷ [])) ≡ filter p us ++ cond (s || a) [] (x ∷ [])
      step true true us e = ap (filter p) (append-nil us) ∙ sym (append-nil (filter p us))
      step false true us e = ap (filter p) (append-nil us) ∙ sym (append-nil (filter p us))
      step true false us e = filter_more p us x ∙ ap (λ (z : Bool). filter p us ++ cond (not z) (x ∷ []) []) e
      step false false us e = filter_more p us x ∙ ap (λ (z : Bool). filter p us ++ cond (not z) (x ∷ []) []) e

same_items : (b : ℕ) (k l : Kill) → kills_same (kill_item b k).kind (kill_item b l).kind ≡ is_same_kill k l
same_items b (Part v l) (Part w m) = refl
same_items b (Part v l) (Number k) = refl
same_items b (Number k) (Part v l) = refl
same_items b (Number k) (Number l) = refl

there_items : (b : ℕ) (ks : List Kill) (k : Kill) → is_there (kill_item b k) (map (kill_item b) ks) ≡ list_any (λ y. is_same_kill y k) ks
there_items b [] k = refl
there_items b (l ∷ ks) k = let one = same_items b l k in let more = there_items b ks k in λ i. one i || more i

map_more : (b : ℕ) (ks : List Kill) (k : Kill) → map (kill_item b) (ks ++ k ∷ []) ≡ map (kill_item b) ks ++ kill_item b k ∷ []
map_more b [] k = refl
map_more b (l ∷ ks) k = ap (λ (zs : List Item). kill_item b l ∷ zs) (map_more b ks k)

pub once_kills : (b : ℕ) (ks : List Kill) (k : Kill) → once (map (kill_item b) (ks ++ k ∷ [])) ≡
    once (map (kill_item b) ks) ++ cond (list_any (λ y. is_same_kill y k) ks) [] (kill_item b k ∷ [])
once_kills b ks k =
    ap once (map_more b ks k) ∙ once_more (map (kill_item b) ks) (kill_item b k) ∙
    ap (λ (z : Bool). once (map (kill_item b) ks) ++ cond z [] (kill_item b k ∷ [])) (there_items b ks k)

either_first : (a b c : Bool) → (a || (b || c)) ≡ (b || (a || c))
either_first true true c = refl
either_first true false c = refl
either_first false b c = refl

pub any_more : (ks : List Kill) (k q : Kill) → list_any (λ y. is_same_kill y q) (ks ++ k ∷ []) ≡ (is_same_kill k q || list_any (λ y. is_same_kill y q) ks)
any_more [] k q = refl
any_more (l ∷ ks) k q =
    ap (λ (z : Bool). is_same_kill l q || z) (any_more ks k q) ∙
    either_first (is_same_kill l q) (is_same_kill k q) (list_any (λ y. is_same_kill y q) ks)
