-- One call after another, on the bytes told.
use Rattle.std.proofs.Common.{◌≡◌, ℕ, ◌≤◌, List, [], ◌++◌, Option, None, Some, Result, Ok, Err, OnOk, OnErr, length, refl, sym, ap, ◌∙◌, inl, inr, arith}
use Rattle.std.proofs.Common.{length-append, append_assoc}
use Rattle.std.proofs.lemmas.List.{append-nil}
use Rattle.base_io.specs.Faults.{CountRose}
use Rattle.base_io.specs.Told.{with_front, with_end, Takes, TakesCount, IsAtEnd, Appends, AppendsPrefix, AppendsUnlessFault}

-- what two calls took, the first call's bytes first
pub Takes-more : (a b c : Option (List ℕ)) (xs ys : List ℕ) → Takes a b xs → Takes b c ys → Takes a c (xs ++ ys)
Takes-more a b None xs ys p q = p ∙ ap (with_front xs) q
Takes-more a b (Some left) xs ys p q =
    p ∙ ap (with_front xs) q ∙ ap Some (sym (append_assoc xs ys left))

-- what two calls appended, the first call's bytes first
pub Appends-more : (a b c : Option (List ℕ)) (xs ys : List ℕ) → Appends a b xs → Appends b c ys → Appends a c (xs ++ ys)
Appends-more None b c xs ys p q = q ∙ ap (λ told. with_end told ys) p
Appends-more (Some start) b c xs ys p q =
    q ∙ ap (λ told. with_end told ys) p ∙ ap Some (append_assoc start xs ys)

-- a call that took nothing
pub Takes-none : (a : Option (List ℕ)) → Takes a a []
Takes-none None = refl
Takes-none (Some left) = refl

-- a call that appended nothing
pub Appends-none : (a : Option (List ℕ)) → Appends a a []
Appends-none None = refl
Appends-none (Some start) = ap Some (sym (append-nil start))

-- whole pieces and then a prefix of the next are a prefix of all of them
pub AppendsPrefix-after : (a b c : Option (List ℕ)) (xs ys : List ℕ) → Appends a b xs → AppendsPrefix b c ys → AppendsPrefix a c (xs ++ ys)
AppendsPrefix-after a b c xs ys p (done, rest, cut, q) =
    (xs ++ done, rest, ap (λ zs. xs ++ zs) cut ∙ sym (append_assoc xs done rest), Appends-more a b c xs done p q)

-- a prefix stays one, whatever was to follow
pub AppendsPrefix-longer : (a b : Option (List ℕ)) (xs ys : List ℕ) → AppendsPrefix a b xs → AppendsPrefix a b (xs ++ ys)
AppendsPrefix-longer a b xs ys (done, rest, cut, q) =
    (done, rest ++ ys, ap (λ zs. zs ++ ys) cut ∙ append_assoc done rest ys, q)

-- nothing at all is a prefix
pub AppendsPrefix-none : (a b : Option (List ℕ)) (xs : List ℕ) → b ≡ a → AppendsPrefix a b xs
AppendsPrefix-none a b xs same = ([], xs, refl, same ∙ Appends-none a)

-- all of it is a prefix
pub AppendsPrefix-whole : (a b : Option (List ℕ)) (xs : List ℕ) → Appends a b xs → AppendsPrefix a b xs
AppendsPrefix-whole a b xs p = (xs, [], sym (append-nil xs), p)

-- where the bytes left are told, what was read up to the end is all of them
pub Takes-told : (left read : List ℕ) (new : Option (List ℕ)) → Takes (Some left) new read → IsAtEnd new → left ≡ read
Takes-told left read None p end = let wrong : Some left ≡ None = p in cc
Takes-told left read (Some rest) p end =
    let all : left ≡ read ++ rest = cc in all ∙ ap (λ l. read ++ l) end ∙ append-nil read

-- where the bytes left are told, no more than they are taken
pub TakesCount-told : (left : List ℕ) (new : Option (List ℕ)) (count : ℕ) → TakesCount (Some left) new count → count ≤ length left
TakesCount-told left None count (bytes, long, p) = let wrong : Some left ≡ None = p in cc
TakesCount-told left (Some rest) count (bytes, long, p) =
    let all : left ≡ bytes ++ rest = cc in omega (arith, ap length all, length-append bytes rest)

-- what `write_all` leaves, whatever it answered
pub AppendsUnlessFault-from_write : {T E : Type 0} (r : Result T E) (old new : Option (List ℕ)) (faults_old faults_new : ℕ) (bytes : List ℕ)
    → OnOk r (Appends old new bytes) → OnErr r (AppendsPrefix old new bytes) → OnErr r (CountRose faults_old faults_new)
    → AppendsUnlessFault old new faults_old faults_new bytes
AppendsUnlessFault-from_write (Ok x) old new faults_old faults_new bytes ok err failed = inl ok
AppendsUnlessFault-from_write (Err e) old new faults_old faults_new bytes ok err failed = inr (err, failed)
