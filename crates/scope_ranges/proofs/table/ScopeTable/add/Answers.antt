use Rattle.std.proofs.Common.{◌≡◌, ◌<◌, ◌≤◌, ◌∷◌, [], length, ap, ◌∙◌, arith}
use Rattle.std.specs.List.{position_or_len}
use Rattle.scope_ways.specs.Ways.{is_same}
use Rattle.scope_ranges.specs.steps.Entered.{places, with_code}
use Rattle.scope_ranges.proofs.Steps.{known_with, extended_with, appended_with}
use Rattle.scope_ranges.proofs.table.ScopeTable.add.Goals as goal

pub returns-then-index-count : goal.returns-then-index-count
returns-then-index-count c =
    let s = c.args.self.now in
    let lo = c.args.addresses.now.lo in
    let hi = c.args.addresses.now.hi in
    let number : c.in_ok-index.index ≡ position_or_len (is_same c.args.place.now) (places s.scopes.items) =
    c.in_ok-index.ensures.number ∙ ap (position_or_len (is_same c.args.place.now)) c.requires in
    let below : c.in_ok-index.index < length s.scopes.items = omega (arith, c.if-index-count.true, c.len-count.ensures, s.scopes.ok.0) in
    let made : c.extend.new.self.scopes.items ≡ with_code s.scopes.items c.args.place.now c.args.parent lo hi =
    extended_with s.scopes.items c.extend.new.self.scopes.items c.args.place.now c.args.parent lo hi c.in_ok-index.index number below
    c.in_ok-extend.ensures.scopes in
    record {
      known =
          known_with s.scopes.items c.extend.new.self.scopes.items c.args.place.now c.args.parent lo hi _ _ c.requires
          (c.in_ok-extend.ensures.known ∙ c.in_ok-index.ensures.known) made;
      scopes = made;
      index = number;
    }

pub returns : goal.returns
returns c =
    let s = c.args.self.now in
    let lo = c.args.addresses.now.lo in
    let hi = c.args.addresses.now.hi in
    let number : c.in_ok-index.index ≡ position_or_len (is_same c.args.place.now) (places s.scopes.items) =
    c.in_ok-index.ensures.number ∙ ap (position_or_len (is_same c.args.place.now)) c.requires in
    let past : length s.scopes.items ≤ c.in_ok-index.index = omega (arith, c.if-index-count.false, c.len-count.ensures, s.scopes.ok.0) in
    let made : c.push.new.self.items ≡ with_code s.scopes.items c.args.place.now c.args.parent lo hi =
    appended_with s.scopes.items c.push.new.self.items c.args.place.now c.args.parent lo hi c.in_ok-index.index number past c.in_ok-ranges.ranges
    c.in_ok-ranges.ensures c.in_ok-push.ensures.items in
    record {
      known = known_with s.scopes.items c.push.new.self.items c.args.place.now c.args.parent lo hi _ _ c.requires c.in_ok-index.ensures.known made;
      scopes = made;
      index = number;
    }
