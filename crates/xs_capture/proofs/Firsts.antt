-- The first offer of each unit and place is a selection, and the timestamps of offers are listed.
use Rattle.std.proofs.Common.{◌≡◌, ℕ, zero, suc, ◌<◌, List, [], ◌∷◌, length, Bool, true, false, Option, Some, None, refl, ap, subst, ◌∙◌, arith, Contains, cond}
use mathlib.Core.Logic.{◌⊎◌, inl, inr}
use Rattle.std.specs.Prelude.{nat_eq, nat_lt, not, ◌&&◌, find, filter, IfSome, IsSome, if◌then◌else◌, slice_index_or, take, drop, ◌-◌, Result, Ok, Err}
use Rattle.std.specs.List.{AllByRecursion, cons_option}
use Rattle.std.proofs.lemmas.Bool.{eqb-true, eq-eqb, ltb-true}
use Rattle.xs_rtp.specs.declared.Rtp.{Rtp}
use Rattle.xs_rtp.specs.declared.RtpFault.{RtpFault}
use Rattle.xs_rtp.specs.Packet.{rtp_read}
use Rattle.xs_rtp.specs.Payload.{pay_of}
use Rattle.xs_capture.specs.Offer.{Offer, unit_places}
use Rattle.xs_capture.specs.Offers.{is_offered, offer_of_payload, offer_of, offers_of, offers_at}
use Rattle.xs_capture.specs.Selection.{Held, IsBounded, IsSelection}
use Rattle.xs_capture.specs.Laws.{SelectionExists}

both : (a b : Bool) → (a && b) ≡ true → (a ≡ true) × (b ≡ true)
both true b e = (refl, e)
both false b e = absurd (cc e)

true_and : (a b : Bool) → a ≡ true → b ≡ true → (a && b) ≡ true
true_and a b p q = ap (λ x. x && b) p ∙ q

-- elements of a list

pub here : {A : Type 0} (x : A) (xs : List A) → Contains (x ∷ xs) x
here x xs = (0, omega arith, refl)

pub there : {A : Type 0} (x y : A) (xs : List A) → Contains xs y → Contains (x ∷ xs) y
there x y xs has = let below : suc has.0 < length (x ∷ xs) = omega (arith, has.1) in (suc has.0, below, has.2)

-- the first element, or one of the others
pub cons_cases : {A : Type 0} (x y : A) (xs : List A) → Contains (x ∷ xs) y → (x ≡ y) ⊎ Contains xs y
cons_cases {A} x y xs has = at has.0 has.1 has.2
  where
    at : (k : ℕ) → k < length (x ∷ xs) → slice_index_or (x ∷ xs) k y ≡ y → (x ≡ y) ⊎ Contains xs y
    at zero below e = inl e
    at (suc k) below e = let less : k < length xs = omega (arith, below) in inr (k, less, e)

pub all_of : {A : Type 0} (P : A → Type 0) (xs : List A) → AllByRecursion P xs → (x : A) → Contains xs x → P x
all_of P [] all x has = absurd (omega (arith, has.1))
all_of {A} P (y ∷ xs) all x has = at (all_of P xs all.1 x) has.0 has.1 has.2
  where
    at : (Contains xs x → P x) → (k : ℕ) → k < length (y ∷ xs) → slice_index_or (y ∷ xs) k x ≡ x → P x
    at rest zero below e = subst P e all.0
    at rest (suc k) below e = let less : k < length xs = omega (arith, below) in rest (k, less, e)

-- what a search finds passes the test, and a search finds what passes it

found : {A : Type 0} (test : A → Bool) (xs : List A) → IfSome (find test xs) (λ x. Contains xs x × (test x ≡ true))
found test [] = tt
found {A} test (x ∷ xs) = go (later (find test xs) (found test xs)) (test x) refl
  where
    later : (o : Option A) → IfSome o (λ y. Contains xs y × (test y ≡ true)) → IfSome o (λ y. Contains (x ∷ xs) y × (test y ≡ true))
    later None p = tt
    later (Some y) p = (there x y xs p.0, p.1)

    go : IfSome (find test xs) (λ y. Contains (x ∷ xs) y × (test y ≡ true)) → (b : Bool) → test x ≡ b → IfSome (cond b (Some x) (find test xs)) (λ y. Contains (x ∷ xs) y × (test y ≡ true))
    go rest true e = (here x xs, e)
    go rest false e = rest

finds_at : {A : Type 0} (test : A → Bool) (xs : List A) → AllByRecursion (λ x. test x ≡ true → IsSome (find test xs)) xs
finds_at test [] = tt
finds_at {A} test (x ∷ xs) = (head (test x), tail xs (finds_at test xs))
  where
    head : (b : Bool) → b ≡ true → IsSome (cond b (Some x) (find test xs))
    head true e = refl
    head false e = absurd (cc e)

    keep : (b : Bool) → IsSome (find test xs) → IsSome (cond b (Some x) (find test xs))
    keep true e = refl
    keep false e = e

    tail : (ys : List A) → AllByRecursion (λ y. test y ≡ true → IsSome (find test xs)) ys → AllByRecursion (λ y. test y ≡ true → IsSome (find test (x ∷ xs))) ys
    tail [] all = tt
    tail (y ∷ ys) all = ((λ e. keep (test x) (all.0 e)), tail ys all.1)

-- the first offer of each place

abbrev is_at : ℕ → ℕ → Offer → Bool
is_at unit place p = nat_eq p.unit unit && nat_eq p.place place

abbrev pub first_held : List Offer → Held
first_held offers unit place = find (is_at unit place) offers

pub first_is_selection : (offers : List Offer) → IsSelection offers (first_held offers)
first_is_selection offers = record {
  offered = λ unit place. shown unit place (find (is_at unit place) offers) (found (is_at unit place) offers);
  filled = λ p has. all_of (λ q. is_at p.unit p.place q ≡ true → IsSome (first_held offers p.unit p.place)) offers (finds_at (is_at p.unit p.place) offers) p has
      (true_and (nat_eq p.unit p.unit) (nat_eq p.place p.place) (eq-eqb p.unit p.unit refl) (eq-eqb p.place p.place refl));
}
  where
    shown : (unit place : ℕ) (o : Option Offer) → IfSome o (λ p. Contains offers p × (is_at unit place p ≡ true)) → IfSome o (λ p. Contains offers p × (p.unit ≡ unit) × (p.place ≡ place))
    shown unit place None p = tt
    shown unit place (Some q) p =
        let parts = both (nat_eq q.unit unit) (nat_eq q.place place) p.1 in
        (p.0, eqb-true q.unit unit parts.0, eqb-true q.place place parts.1)

pub selection_exists : SelectionExists
selection_exists offers = (first_held offers, first_is_selection offers)

-- unit_places of offers are below the last

abbrev IsPlaced : Offer → Type 0
IsPlaced p = p.place < unit_places

placed_if : (b : Bool) (p : Offer) → (b ≡ true → IsPlaced p) → IfSome (if b then Some p else None) IsPlaced
placed_if true p holds = holds refl
placed_if false p holds = tt

payload_placed : (timestamp : ℕ) (payload : List ℕ) → IfSome (offer_of_payload timestamp payload) IsPlaced
payload_placed timestamp payload = placed_if _ _ (λ e.
    let offered = (both (not (nat_lt (length payload) 4)) (is_offered (pay_of payload)) e).1 in
    let small = (both ((pay_of payload).slice_mode && nat_eq (pay_of payload).interlace 0) (nat_lt (pay_of payload).place unit_places) offered).1 in
    ltb-true (pay_of payload).place unit_places small)

offer_placed : (packet : List ℕ) → IfSome (offer_of packet) IsPlaced
unfolding offer_of
offer_placed packet = go (rtp_read packet)
  where
    go : (read : Result (Rtp × ℕ × ℕ) RtpFault) → IfSome (elim read [ Ok r ↦ offer_of_payload r.0.timestamp (take (r.2 - r.1) (drop r.1 packet)) | Err fault ↦ None ]) IsPlaced
    go (Ok r) = payload_placed r.0.timestamp (take (r.2 - r.1) (drop r.1 packet))
    go (Err fault) = tt

offers_placed : (packets : List (List ℕ)) → AllByRecursion IsPlaced (offers_of packets)
offers_placed [] = tt
offers_placed (packet ∷ packets) = go (offers_placed packets) (offer_of packet) (offer_placed packet)
  where
    go : AllByRecursion IsPlaced (offers_of packets) → (o : Option Offer) → IfSome o IsPlaced → AllByRecursion IsPlaced (cons_option o (offers_of packets))
    go rest None p = rest
    go rest (Some q) p = (p, rest)

filtered : {A : Type 0} (P : A → Type 0) (test : A → Bool) (xs : List A) → AllByRecursion P xs → AllByRecursion P (filter test xs)
filtered P test [] all = tt
filtered {A} P test (x ∷ xs) all = go (filtered P test xs all.1) (test x)
  where
    go : AllByRecursion P (filter test xs) → (b : Bool) → AllByRecursion P (cond b (x ∷ filter test xs) (filter test xs))
    go rest true = (all.0, rest)
    go rest false = rest

-- a packet that is held stands below the last place
bounded_by : (offers : List Offer) → AllByRecursion IsPlaced offers → IsBounded (first_held offers)
bounded_by offers placed unit place past = go (find (is_at unit place) offers) (found (is_at unit place) offers)
  where
    go : (o : Option Offer) → IfSome o (λ p. Contains offers p × (is_at unit place p ≡ true)) → o ≡ None
    go None p = refl
    go (Some q) p =
        let small : q.place < 512 = all_of IsPlaced offers placed q p.0 in
        let at : q.place ≡ place = eqb-true q.place place (both (nat_eq q.unit unit) (nat_eq q.place place) p.1).1 in
        absurd (omega (arith, small, at, past))

pub first_is_bounded : (timestamp : ℕ) (packets : List (List ℕ)) → IsBounded (first_held (offers_at timestamp (offers_of packets)))
first_is_bounded timestamp packets = bounded_by (offers_at timestamp (offers_of packets)) (filtered IsPlaced (λ (p : Offer). nat_eq p.timestamp timestamp) (offers_of packets) (offers_placed packets))
