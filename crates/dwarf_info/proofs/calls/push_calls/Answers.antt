use Rattle.std.proofs.Common.{◌≡◌, ℕ, ◌+◌, ◌-◌, ◌<◌, ◌∷◌, [], ◌++◌, List, Some, None, length, drop, map, reverse, arith, ap, sym, ◌∙◌, subst, length-append}
use Rattle.std.proofs.Common.{suc, drop-cons, get_or, Vec, Global}
use Rattle.std.proofs.lemmas.List.{get_or-map}
use Rattle.std.specs.Prelude.{All}
use Rattle.std.proofs.lemmas.List.Elements.{All-pop}
use Rattle.dwarf_info.specs.declared.inlined.InlinedCall.{InlinedCall}
use Rattle.dwarf_info.specs.declared.calls.Left.{Left}
use Rattle.dwarf_info.specs.declared.calls.Left.TheVariants.{Call, End}
use Rattle.dwarf_info.specs.Entries.{HasType}
use Rattle.dwarf_info.specs.Inlined.{call_bytes, calls_within}
use Rattle.dwarf_info.specs.steps.Parts.{in_table}
use Rattle.dwarf_info.specs.steps.Within.{numbers_inside, IsLeft}
use Rattle.dwarf_info.proofs.CallLemmas.{writing_begins, writing_ends, writing_enters, written_within, room_for, call_within}
use Rattle.dwarf_info.proofs.InlinedLemmas.{call_parts, call_some}
use Rattle.dwarf_info.proofs.PlaceLemmas.{call_is}
use Rattle.dwarf_info.proofs.calls.push_calls.Goals as goal

pub loop-next-init : goal.loop-next-init
loop-next-init c =
    writing_begins _ (length c.args.offsets.now) (length c.args.origins.now) _ _ _
    (c.in_ok-push_left.ensures
    ∙ (λ i. c.new-left.ensures.items i ++ reverse (map (λ k. Call k) ((c.as_slice.ensures.value ∙ c.in_ok-within.ensures.own) i))))

pub returns-then-len-ge-SECTION_LIMIT-clause-large : goal.returns-then-len-ge-SECTION_LIMIT-clause-large
returns-then-len-ge-SECTION_LIMIT-clause-large c = λ e.
    let calls = calls_within (call_bytes (in_table c.args.offsets.now) (in_table c.args.origins.now) c.args.first) 0 c.args.calls.now None in
    omega (
      arith,
      written_within _ _ _ _ _ c.loop-next.invariant,
      length-append c.args.out.now.items calls,
      c.len.ensures,
      c.if-len-ge-SECTION_LIMIT.true,
    )

pub loop-next-preserved-in-Continue-branch-3 : goal.loop-next-preserved-in-Continue-branch-3
loop-next-preserved-in-Continue-branch-3 c =
    let is : c.in-Some.next ≡ End = c.in-End.is in
    let popped : c.loop-next.left.items ≡ c.pop.new.self.items ++ End ∷ [] =
    c.in-Some.ensures.items ∙ ap (λ (l : Left). c.pop.new.self.items ++ l ∷ []) is in
    let rest = All-pop (IsLeft (length c.args.calls.now)) _ _ (Some c.in-Some.next) c.in-Some.ensures.items c.loop-next.invariant.are in
    writing_ends _ (length c.args.offsets.now) (length c.args.origins.now) _ _ _ _ _ _ c.loop-next.invariant popped rest.0 c.in_ok-push-in-End.ensures.items

pub loop-next-smaller-in-Continue-branch-3 : goal.loop-next-smaller-in-Continue-branch-3
loop-next-smaller-in-Continue-branch-3 c =
    let calls = calls_within (call_bytes (in_table c.args.offsets.now) (in_table c.args.origins.now) c.args.first) 0 c.args.calls.now None in
    let whole = c.args.out.now.items ++ calls in
    let is : c.in-Some.next ≡ End = c.in-End.is in
    let popped : c.loop-next.left.items ≡ c.pop.new.self.items ++ End ∷ [] =
    c.in-Some.ensures.items ∙ ap (λ (l : Left). c.pop.new.self.items ++ l ∷ []) is in
    let room = room_for _ c.args.calls.now whole c.loop-next.out.items c.loop-next.left.items c.pop.new.self.items End c.loop-next.invariant popped in
    let longer : length c.push.new.self.items ≡ length c.loop-next.out.items + 1 =
    ap (λ (xs : List ℕ). length xs) c.in_ok-push-in-End.ensures.items ∙ length-append c.loop-next.out.items (0 ∷ []) in
    let step : length whole - length c.push.new.self.items < length whole - length c.loop-next.out.items = omega (arith, room, longer) in
    step

pub push_call-requires-clause-types : goal.push_call-requires-clause-types
push_call-requires-clause-types c =
    let k = c.in-Call.k in
    let is : c.in-Some.next ≡ Call k = c.in-Call.is in
    let rest = All-pop (IsLeft (length c.args.calls.now)) _ _ (Some c.in-Some.next) c.in-Some.ensures.items c.loop-next.invariant.are in
    let inside : k < length c.args.calls.now = subst (IsLeft (length c.args.calls.now)) is rest.1 in
    let call = call_is (length c.args.offsets.now) (length c.args.origins.now) 0 k c.args.calls.now c.index-calls-k.result c.requires.calls inside in
    subst (λ (x : InlinedCall). All (HasType (length c.args.offsets.now)) x.variables) (sym c.index-calls-k.is) call.types_are

pub push_call-requires-clause-origin : goal.push_call-requires-clause-origin
push_call-requires-clause-origin c =
    let k = c.in-Call.k in
    let is : c.in-Some.next ≡ Call k = c.in-Call.is in
    let rest = All-pop (IsLeft (length c.args.calls.now)) _ _ (Some c.in-Some.next) c.in-Some.ensures.items c.loop-next.invariant.are in
    let inside : k < length c.args.calls.now = subst (IsLeft (length c.args.calls.now)) is rest.1 in
    let call = call_is (length c.args.offsets.now) (length c.args.origins.now) 0 k c.args.calls.now c.index-calls-k.result c.requires.calls inside in
    subst (λ (x : InlinedCall). x.origin < length c.args.origins.now) (sym c.index-calls-k.is) call.origin

pub loop-next-preserved : goal.loop-next-preserved
loop-next-preserved c =
    let calls = c.args.calls.now in
    let k = c.in-Call.k in
    let call = c.index-calls-k.result in
    let bytes = call_bytes (in_table c.args.offsets.now) (in_table c.args.origins.now) c.args.first in
    let is : c.in-Some.next ≡ Call k = c.in-Call.is in
    let popped : c.loop-next.left.items ≡ c.pop.new.self.items ++ Call k ∷ [] =
    c.in-Some.ensures.items ∙ ap (λ (l : Left). c.pop.new.self.items ++ l ∷ []) is in
    let rest = All-pop (IsLeft (length calls)) _ _ (Some c.in-Some.next) c.in-Some.ensures.items c.loop-next.invariant.are in
    let inside : k < length calls = subst (IsLeft (length calls)) is rest.1 in
    let at : drop k calls ≡ call ∷ drop (suc k) calls =
    drop-cons calls k call inside ∙ ap (λ (x : InlinedCall). x ∷ drop (suc k) calls) (sym c.index-calls-k.is) in
    let written : c.push_call.new.out.items ≡ c.loop-next.out.items ++ bytes k call =
    c.in_ok-push_call-in-Call.ensures
    ∙ ap (λ (xs : List ℕ). c.loop-next.out.items ++ xs)
    (sym (call_parts (in_table c.args.offsets.now) (in_table c.args.origins.now) c.args.first k call)) in
    let there : k < length c.in_ok-within.within.inside.items = omega (arith, inside, c.in_ok-within.ensures.count) in
    let numbers : c.as_slice-in-Call.result.now ≡ numbers_inside calls k =
    c.as_slice-in-Call.ensures.value ∙ ap (λ (v : Vec ℕ Global). v.items) c.index.ensures
    ∙ sym (get_or-map (λ (v : Vec ℕ Global). v.items) c.in_ok-within.within.inside.items k c.index.result.now [] there)
    ∙ c.in_ok-within.ensures.inside k inside in
    let grown : c.push_left-in-Call.new.left.items ≡ (c.pop.new.self.items ++ End ∷ []) ++ reverse (map (λ n. Call n) (numbers_inside calls k)) =
    c.in_ok-push_left-in-Call.ensures ∙ (λ i. c.in_ok-push-in-Call.ensures.items i ++ reverse (map (λ n. Call n) (numbers i))) in
    writing_enters bytes (length c.args.offsets.now) (length c.args.origins.now) calls _ c.loop-next.out.items c.push_call.new.out.items
    c.loop-next.left.items c.pop.new.self.items c.push_left-in-Call.new.left.items k call c.requires.calls c.loop-next.invariant popped rest.0 at written grown

pub loop-next-smaller : goal.loop-next-smaller
loop-next-smaller c =
    let calls = c.args.calls.now in
    let k = c.in-Call.k in
    let call = c.index-calls-k.result in
    let bytes = call_bytes (in_table c.args.offsets.now) (in_table c.args.origins.now) c.args.first in
    let whole = c.args.out.now.items ++ calls_within bytes 0 calls None in
    let is : c.in-Some.next ≡ Call k = c.in-Call.is in
    let popped : c.loop-next.left.items ≡ c.pop.new.self.items ++ Call k ∷ [] =
    c.in-Some.ensures.items ∙ ap (λ (l : Left). c.pop.new.self.items ++ l ∷ []) is in
    let rest = All-pop (IsLeft (length calls)) _ _ (Some c.in-Some.next) c.in-Some.ensures.items c.loop-next.invariant.are in
    let inside : k < length calls = subst (IsLeft (length calls)) is rest.1 in
    let at : drop k calls ≡ call ∷ drop (suc k) calls =
    drop-cons calls k call inside ∙ ap (λ (x : InlinedCall). x ∷ drop (suc k) calls) (sym c.index-calls-k.is) in
    let room = room_for bytes calls whole c.loop-next.out.items c.loop-next.left.items c.pop.new.self.items (Call k) c.loop-next.invariant popped in
    let within = call_within bytes k call (drop (suc k) calls) calls at in
    let some = call_some (in_table c.args.offsets.now) (in_table c.args.origins.now) c.args.first k call in
    let written : c.push_call.new.out.items ≡ c.loop-next.out.items ++ bytes k call =
    c.in_ok-push_call-in-Call.ensures
    ∙ ap (λ (xs : List ℕ). c.loop-next.out.items ++ xs)
    (sym (call_parts (in_table c.args.offsets.now) (in_table c.args.origins.now) c.args.first k call)) in
    let longer : length c.push_call.new.out.items ≡ length c.loop-next.out.items + length (bytes k call) =
    ap (λ (xs : List ℕ). length xs) written ∙ length-append c.loop-next.out.items (bytes k call) in
    let step : length whole - length c.push_call.new.out.items < length whole - length c.loop-next.out.items =
    omega (arith, room, within, some, longer) in
    step
