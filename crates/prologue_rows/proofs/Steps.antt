-- Lists that loops make item by item.
use Rattle.std.proofs.Common.{◌≡◌, ℕ, ◌+◌, ◌<◌, length, drop, get_or, Bool, true, false, cond, List, [], ◌∷◌, ◌++◌, map, Option, Some}
use Rattle.std.proofs.Common.{refl, sym, ap, ◌∙◌, arith, append_assoc, append-nil}
use Rattle.std.specs.List.{prefix_len}
use Rattle.std.proofs.lemmas.List.{drop_more}
use Rattle.dwarf_line.specs.declared.table.Row.{Row}
use Rattle.dwarf_line_table.specs.Table.{is_place_before, changes}

-- one more item of a map
pub map_next : {X Y : Type 0} (f : X → Y) (made made_ whole : List Y) (xs rest : List X) (x : X) (y : Y) → xs ≡ x ∷ rest → y ≡ f x
    → made_ ≡ made ++ y ∷ [] → made ++ map f xs ≡ whole → made_ ++ map f rest ≡ whole
map_next f made made_ whole xs rest x y split is pushed so =
    ap (λ ys. ys ++ map f rest) pushed ∙ append_assoc made (y ∷ []) (map f rest) ∙ ap (λ z. made ++ z ∷ map f rest) is
    ∙ ap (λ zs. made ++ map f zs) (sym split) ∙ so

-- and all of it
pub map_done : {X Y : Type 0} (f : X → Y) (made whole : List Y) (left : List X) → left ≡ [] → made ++ map f left ≡ whole → made ≡ whole
map_done f made whole left none so = sym (append-nil made) ∙ ap (λ xs. made ++ map f xs) (sym none) ∙ so

-- the rows that are kept, one row more
pub changes_step : (kept kept_ whole : List Row) (before before_ : Option Row) (rows : List Row) (i : ℕ) (d : Row) → i < length rows
    → kept ++ changes before (drop i rows) ≡ whole → (b : Bool) → b ≡ is_place_before before (get_or rows i d)
    → before_ ≡ cond b before (Some (get_or rows i d)) → kept_ ≡ cond b kept (kept ++ get_or rows i d ∷ [])
    → kept_ ++ changes before_ (drop (i + 1) rows) ≡ whole
changes_step kept kept_ whole before before_ rows i d inside so b tested before_is kept_is =
    let r : Row = get_or rows i d in
    let rest : List Row = drop (i + 1) rows in
    (λ k. kept_is k ++ changes (before_is k) rest) ∙ sym (by b)
    ∙ ap (λ t. kept ++ cond t (changes before rest) (r ∷ changes (Some r) rest)) tested
    ∙ ap (λ rs. kept ++ changes before rs) (sym (drop_more rows i d inside)) ∙ so
  where
    by : (t : Bool) → kept ++ cond t (changes before (drop (i + 1) rows)) (get_or rows i d ∷ changes (Some (get_or rows i d)) (drop (i + 1) rows))
        ≡ cond t kept (kept ++ get_or rows i d ∷ []) ++ changes (cond t before (Some (get_or rows i d))) (drop (i + 1) rows)
    by true = refl
    by false = sym (append_assoc kept (get_or rows i d ∷ []) (changes (Some (get_or rows i d)) (drop (i + 1) rows)))

-- a front that passes a test grows, and ends
pub front_grows : {X : Type 0} (p : X → Bool) (count whole : ℕ) (xs rest : List X) (x : X) → xs ≡ x ∷ rest → p x ≡ true → count + prefix_len p xs ≡ whole
    → count + 1 + prefix_len p rest ≡ whole
front_grows p count whole xs rest x split passes so =
    let here : prefix_len p xs ≡ 1 + prefix_len p rest = ap (prefix_len p) split ∙ ap (λ b. cond b (1 + prefix_len p rest) 0) passes in
    omega (arith, here, so)

pub front_ends : {X : Type 0} (p : X → Bool) (count whole : ℕ) (xs rest : List X) (x : X) → xs ≡ x ∷ rest → p x ≡ false → count + prefix_len p xs ≡ whole
    → count ≡ whole
front_ends p count whole xs rest x split fails so =
    let here : prefix_len p xs ≡ 0 = ap (prefix_len p) split ∙ ap (λ b. cond b (1 + prefix_len p rest) 0) fails in
    omega (arith, here, so)

pub front_all : {X : Type 0} (p : X → Bool) (count whole : ℕ) (left : List X) → left ≡ [] → count + prefix_len p left ≡ whole → count ≡ whole
front_all p count whole left none so = let here : prefix_len p left ≡ 0 = ap (prefix_len p) none in omega (arith, here, so)
