use Rattle.std.proofs.Common.{◌≡◌, ℕ, ◌+◌, ◌<◌, ◌++◌, ◌∷◌, [], List, Option, Some, None, Vec, Global, length, map, take, set, get_or, arith, ap, sym, ◌∙◌, subst, refl}
use Rattle.std.specs.Prelude.{IfSome}
use Rattle.std.proofs.lemmas.List.{take_more, take_all, length-take-le, length-map, map_push, map-set, get_or-map}
use Rattle.dwarf_info.specs.declared.inlined.InlinedCall.{InlinedCall}
use Rattle.dwarf_info.proofs.PlaceLemmas.{ArePlaced, nothing_placed, placed_same, placed_own, placed_inside, calls_taken, call_is}
use Rattle.dwarf_info.proofs.calls.by_place.Goals.{in-None+in_ok-push-in-None, in-Some+in_ok-push-in-Some}
use Rattle.dwarf_info.proofs.calls.by_place.Goals as goal

abbrev items : Vec ℕ Global → List ℕ
items v = v.items

pub loop-k-init : goal.loop-k-init
loop-k-init c = rw (c.new-own.ensures.items, c.new-inside.ensures.items) nothing_placed

pub index_mut-requires : goal.index_mut-requires
index_mut-requires c =
    let calls = c.args.calls.now in
    let k = c.loop-k.k in
    let one = call_is c.requires.0 c.requires.1 0 k calls c.index-calls-k.result c.requires.2 c.loop-k-test.true in
    let before : IfSome c.index-calls-k.result.parent (λ p. p < 0 + k) =
    subst (λ (x : InlinedCall). IfSome x.parent (λ p. p < 0 + k)) (sym c.index-calls-k.is) one.parent in
    let below : c.in-Some.parent < 0 + k = subst (λ (o : Option ℕ). IfSome o (λ p. p < 0 + k)) c.in-Some.is before in
    omega (
      arith,
      below,
      c.loop-k.invariant.count,
      c.loop-k.inside.ok.0,
      length-map c.loop-k.inside.items items,
      length-take-le k calls (omega (arith, c.loop-k-test.true)),
    )

pub loop-k-preserved : goal.loop-k-preserved
loop-k-preserved c =
    let calls = c.args.calls.now in
    let k = c.loop-k.k in
    let i = c.index-calls-k.result in
    let inside : k < length calls = c.loop-k-test.true in
    let long : length (take k calls) ≡ k = length-take-le k calls (omega (arith, inside)) in
    let front : take k calls ++ i ∷ [] ≡ take (k + 1) calls =
    ap (λ (x : InlinedCall). take k calls ++ x ∷ []) c.index-calls-k.is ∙ sym (take_more calls k i inside) in
    let are = calls_taken c.requires.0 c.requires.1 0 k calls c.requires.2 in
    let one = call_is c.requires.0 c.requires.1 0 k calls i c.requires.2 inside in
    let before : IfSome i.parent (λ p. p < 0 + k) = subst (λ (x : InlinedCall). IfSome x.parent (λ p. p < 0 + k)) (sym c.index-calls-k.is) one.parent in
    let places : List (List ℕ) = map items c.match-call.inside.items in
    let pushed : map items c.push-in-loop-k.new.self.items ≡ places ++ [] ∷ [] =
    ap (map items) c.in_ok-push.ensures.items ∙ map_push items c.match-call.inside.items c.new.result
    ∙ ap (λ (xs : List ℕ). places ++ xs ∷ []) c.new.ensures.items in
    elim c.match-call.branch [
      | in-None+in_ok-push-in-None w ↦
          let own : c.match-call.own.items ≡ c.loop-k.own.items ++ k ∷ [] = ap items w.own-is ∙ w.in_ok-push-in-None.ensures.items in
          let same : map items c.loop-k.inside.items ++ [] ∷ [] ≡ map items c.push-in-loop-k.new.self.items =
          ap (λ (v : Vec (Vec ℕ Global) Global). map items v.items ++ [] ∷ []) (sym w.inside-is) ∙ sym pushed in
          placed_same (take k calls ++ i ∷ []) (take (k + 1) calls) c.match-call.own.items c.match-call.own.items
          (map items c.loop-k.inside.items ++ [] ∷ []) (map items c.push-in-loop-k.new.self.items) front refl same
          (placed_own c.requires.0 c.requires.1 (take k calls) i k are (sym long) c.loop-k.own.items c.match-call.own.items
          (map items c.loop-k.inside.items) c.loop-k.invariant w.in-None.is own)
      | in-Some+in_ok-push-in-Some w ↦
          let p = w.in-Some.parent in
          let below : p < 0 + k = subst (λ (o : Option ℕ). IfSome o (λ q. q < 0 + k)) w.in-Some.is before in
          let there : p < length c.loop-k.inside.items =
          omega (arith, below, c.loop-k.invariant.count, length-map c.loop-k.inside.items items, long) in
          let own : c.loop-k.own.items ≡ c.match-call.own.items = ap items (sym w.own-is) in
          let now : List ℕ = w.push-in-Some.new.self.items in
          let now_is : now ≡ get_or (map items c.loop-k.inside.items) p [] ++ k ∷ [] =
          w.in_ok-push-in-Some.ensures.items
          ∙ ap (λ (xs : List ℕ). xs ++ k ∷ [])
          (ap items w.index_mut.ensures.value ∙ sym (get_or-map items c.loop-k.inside.items p w.index_mut.result.now [] there)) in
          let same : set (map items c.loop-k.inside.items) p now ++ [] ∷ [] ≡ map items c.push-in-loop-k.new.self.items =
          ap (λ (xs : List (List ℕ)). xs ++ [] ∷ [])
          (sym (map-set items c.loop-k.inside.items p w.push-in-Some.new.self)
          ∙ ap (λ (v : Vec (Vec ℕ Global) Global). map items v.items) (sym w.inside-is))
          ∙ sym pushed in
          placed_same (take k calls ++ i ∷ []) (take (k + 1) calls) c.loop-k.own.items c.match-call.own.items
          (set (map items c.loop-k.inside.items) p now ++ [] ∷ []) (map items c.push-in-loop-k.new.self.items) front own same
          (placed_inside c.requires.0 c.requires.1 (take k calls) i k are (sym long) c.loop-k.own.items (map items c.loop-k.inside.items) p now
          c.loop-k.invariant w.in-Some.is (omega (arith, below)) now_is)
    ]

pub returns : goal.returns
returns c =
    let so =
    subst (λ (cs : List InlinedCall). ArePlaced cs c.loop-k.own.items (map items c.loop-k.inside.items))
    (take_all c.loop-k.k c.args.calls.now c.loop-k-test.false) c.loop-k.invariant in
    record { own = so.own; count = sym (length-map c.loop-k.inside.items items) ∙ so.count; inside = so.inside }
