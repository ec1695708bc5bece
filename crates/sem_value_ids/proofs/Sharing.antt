-- When two things have one token after items: a token that an item makes is none that was there before.
use Rattle.std.proofs.Common.{◌≡◌, ℕ, ◌<◌, ◌+◌, Option, Some, None, refl, sym, subst, arith}
use Rattle.std.specs.Prelude.{◌↔◌}
use Rattle.sem_mir.specs.ValueId.{Token, Made, Tokens}
use Rattle.sem_value_ids.specs.Pullback.{Tracked, token_of, Back, Was, New, Nameless, token_back}
use Rattle.sem_value_ids.specs.Pullback.{back_over, after_items, BacksAgree, AgreementPullsBack, Share, BacksShare, SharingPullsBack}
use Rattle.sem_value_ids.proofs.Naming.{IsOld, IsOlder}
use Rattle.sem_value_ids.proofs.Backwards.{tokens_pull_back}
use Rattle.sem_value_ids.proofs.Made.{path_is_old}

not_made : (n i r : ℕ) (x : Option Token) → IsOld n x → x ≡ Some (Made (n + i) r) → ⊥
not_made n i r None old e = cc
not_made n i r (Some k) old e =
    let same : k ≡ Made (n + i) r = cc in
    let less : n + i < n = subst (λ (z : Token). IsOlder n z) same old in
    omega arith

one_made : (n i j q r : ℕ) → Some (Made (n + i) q) ≡ Some (Made (n + j) r) → (i ≡ j) × (q ≡ r)
one_made n i j q r e =
    let index : n + i ≡ n + j = cc in
    let register : q ≡ r = cc in
    (omega (arith, index), register)

same_made : (n i j q r : ℕ) → (i ≡ j) × (q ≡ r) → Some (Made (n + i) q) ≡ Some (Made (n + j) r)
same_made n i j q r h = λ z. Some (Made (n + h.0 z) (h.1 z))

backs_agree : (n : ℕ) (t : Tokens) (b c : Back) → ((x : Tracked) → IsOld n (token_of x t)) → (token_back n t b ≡ token_back n t c) ↔ BacksAgree t b c
backs_agree n t (Was x) (Was y) old = (λ e. e, λ e. e)
backs_agree n t (Was x) (New j r) old = (λ e. not_made n j r (token_of x t) (old x) e, λ e. absurd e)
backs_agree n t (Was x) Nameless old = (λ e. e, λ e. e)
backs_agree n t (New i q) (Was y) old = (λ e. not_made n i q (token_of y t) (old y) (sym e), λ e. absurd e)
backs_agree n t (New i q) (New j r) old = (one_made n i j q r, same_made n i j q r)
backs_agree n t (New i q) Nameless old = (λ e. cc, λ e. absurd e)
backs_agree n t Nameless (Was y) old = (λ e. sym e, λ e. sym e)
backs_agree n t Nameless (New j r) old = (λ e. cc, λ e. absurd e)
backs_agree n t Nameless Nameless old = (λ e. tt, λ e. refl)

pub agreement_pulls_back : AgreementPullsBack
agreement_pulls_back g start n p t path items x y =
    let b = back_over g.resolve 0 items x in
    let c = back_over g.resolve 0 items y in
    subst (λ (z : Option Token). (z ≡ token_of y (after_items g.resolve n items t)) ↔ BacksAgree t b c) (sym (tokens_pull_back g.resolve n items t x))
    (subst (λ (z : Option Token). (token_back n t b ≡ z) ↔ BacksAgree t b c) (sym (tokens_pull_back g.resolve n items t y))
    (backs_agree n t b c (path_is_old path)))

shared : (a b : Option Token) (k : Token) → a ≡ Some k → b ≡ Some k → a ≡ b
shared a b k e f = cc

backs_share : (n : ℕ) (t : Tokens) (b c : Back) → ((x : Tracked) → IsOld n (token_of x t)) → Share (token_back n t b) (token_back n t c) ↔ BacksShare t b c
backs_share n t (Was x) (Was y) old = (λ s. s, λ s. s)
backs_share n t (Was x) (New j r) old = (λ s. not_made n j r (token_of x t) (old x) (shared _ _ s.0 s.1 s.2), λ e. absurd e)
backs_share n t (Was x) Nameless old = (λ (k, e, f). cc, λ e. absurd e)
backs_share n t (New i q) (Was y) old = (λ s. not_made n i q (token_of y t) (old y) (shared _ _ s.0 s.2 s.1), λ e. absurd e)
backs_share n t (New i q) (New j r) old =
    (λ s. one_made n i j q r (shared _ _ s.0 s.1 s.2), λ e. (Made (n + i) q, refl, sym (same_made n i j q r e)))
backs_share n t (New i q) Nameless old = (λ (k, e, f). cc, λ e. absurd e)
backs_share n t Nameless c old = (λ (k, e, f). cc, λ e. absurd e)

pub sharing_pulls_back : SharingPullsBack
sharing_pulls_back g start n p t path items x y =
    let b = back_over g.resolve 0 items x in
    let c = back_over g.resolve 0 items y in
    subst (λ (z : Option Token). Share z (token_of y (after_items g.resolve n items t)) ↔ BacksShare t b c) (sym (tokens_pull_back g.resolve n items t x))
    (subst (λ (z : Option Token). Share (token_back n t b) z ↔ BacksShare t b c) (sym (tokens_pull_back g.resolve n items t y))
    (backs_share n t b c (path_is_old path)))
