-- What an activity keeps is kept where it gets more.
use Rattle.std.proofs.Common.{◌≡◌, inl, inr, ℕ, suc, ◌+◌, Bool, true, false, true≢false, Option, Some, None, List, [], ◌∷◌, ◌++◌, All, Bor, sym, refl, ap, ◌∙◌, subst}
use Rattle.std.specs.Prelude.{IsSome, IfSome, MatchOption}
use Rattle.once_cell.specs.Once.{Agrees}
use Rattle.std.specs.Option.{option_or}
use Rattle.std.specs.List.{Contains}
use Rattle.std.proofs.lemmas.List.Elements.{Contains-append_left, Contains-append_right, Contains-push, All-nil, All-cons, All-append, All-push, All-weaker, All-contains_itself}
use Rattle.xs_params.specs.declared.header.Header.{Header}
use Rattle.xs_lane_core.specs.Machine.{Placing}
use Rattle.xs_lanes.specs.Claiming.{IsRun}
use Rattle.xs_capture.specs.Offer.{Offer}
use Rattle.xs_stored.specs.Stored.{packets, joined_bytes, IsCopy}
use Rattle.xs_board.specs.declared.head.HeadRead.{HeadRead}
use Rattle.xs_board.specs.Passes.{KnowsStill}
use Rattle.xs_recv.specs.declared.activity.SliceCopy.{SliceCopy}
use Rattle.xs_recv.specs.Activities.{IsKept, Keeps, KnowsHeader}

-- Runs

pub run_lane : {T : Type 0} (k : Placing T) (l p : ℕ) (xs : List T) → IsRun k l p xs → All (λ (x : T). k.lane x ≡ l) xs
run_lane k l p [] r = absurd r
run_lane {T} k l p (x ∷ xs) r = All-cons (λ (y : T). k.lane y ≡ l) x xs r.0 (rest (λ r'. run_lane k l (suc p) xs r') (k.closes x) refl)
  where
    rest : (IsRun k l (suc p) xs → All (λ (y : T). k.lane y ≡ l) xs) → (b : Bool) → k.closes x ≡ b → All (λ (y : T). k.lane y ≡ l) xs
    rest more true e = subst (All (λ (y : T). k.lane y ≡ l)) (sym (r.2 e)) (All-nil (λ (y : T). k.lane y ≡ l))
    rest more false e = more (r.3 e)

-- Copies

copy_more : (got more : List Offer) (unit : ℕ) (bytes : List ℕ) → IsCopy got unit bytes → IsCopy (got ++ more) unit bytes
copy_more got more unit bytes c = record { values = c.values; run = c.run; from = All-weaker (Contains got) (Contains (got ++ more)) (λ x. Contains-append_left got more x) c.values c.from; joins = c.joins }

copy_after : (got more : List Offer) (unit : ℕ) (bytes : List ℕ) → IsCopy more unit bytes → IsCopy (got ++ more) unit bytes
copy_after got more unit bytes c = record { values = c.values; run = c.run; from = All-weaker (Contains more) (Contains (got ++ more)) (λ x. Contains-append_right got more x) c.values c.from; joins = c.joins }

new_copy : (got values : List Offer) (unit : ℕ) (bytes : List ℕ) → IsRun packets unit 0 values → bytes ≡ joined_bytes values → IsCopy (got ++ values) unit bytes
new_copy got values unit bytes run joins = record { values = values; run = run; from = All-weaker (Contains values) (Contains (got ++ values)) (λ x. Contains-append_right got values x) values (All-contains_itself values); joins = joins }

copies_more : (got more : List Offer) (kept : List SliceCopy) → All (λ (c : SliceCopy). IsCopy got (c.slice + 1) c.bytes) kept → All (λ (c : SliceCopy). IsCopy (got ++ more) (c.slice + 1) c.bytes) kept
copies_more got more kept all = All-weaker (λ (c : SliceCopy). IsCopy got (c.slice + 1) c.bytes) (λ (c : SliceCopy). IsCopy (got ++ more) (c.slice + 1) c.bytes) (λ c. copy_more got more (c.slice + 1) c.bytes) kept all

copies_after : (got more : List Offer) (kept : List SliceCopy) → All (λ (c : SliceCopy). IsCopy more (c.slice + 1) c.bytes) kept → All (λ (c : SliceCopy). IsCopy (got ++ more) (c.slice + 1) c.bytes) kept
copies_after got more kept all = All-weaker (λ (c : SliceCopy). IsCopy more (c.slice + 1) c.bytes) (λ (c : SliceCopy). IsCopy (got ++ more) (c.slice + 1) c.bytes) (λ c. copy_after got more (c.slice + 1) c.bytes) kept all

head_more : (got more : List Offer) (head : Option HeadRead) → IfSome head (λ (r : HeadRead). IsCopy got 0 r.bytes) → IfSome head (λ (r : HeadRead). IsCopy (got ++ more) 0 r.bytes)
head_more got more None c = tt
head_more got more (Some r) c = copy_more got more 0 r.bytes c

head_after : (got more : List Offer) (head : Option HeadRead) → IfSome head (λ (r : HeadRead). IsCopy more 0 r.bytes) → IfSome head (λ (r : HeadRead). IsCopy (got ++ more) 0 r.bytes)
head_after got more None c = tt
head_after got more (Some r) c = copy_after got more 0 r.bytes c

-- What is known

pub known_header : (known now : Option HeadRead) (h : Header) → KnowsStill known now → KnowsHeader known h → KnowsHeader now h
known_header None now h still (r, e, n, is) = absurd (cc e)
known_header (Some x) now h still (r, e, n, is) = (r, still ∙ e, n, is)

pub still_same : (known now : Option HeadRead) → now ≡ known → KnowsStill known now
still_same None now e = tt
still_same (Some r) now e = e

-- the header that is shown
pub still_shown : (known now : Option HeadRead) (o : Option (Bor HeadRead)) → MatchOption o ((known ≡ None) × (now ≡ None)) (λ (r : Bor HeadRead). (now ≡ Some r.now) × Agrees known r.now) → KnowsStill known now
still_shown known now None h = subst (λ (k : Option HeadRead). KnowsStill k now) (sym h.0) tt
still_shown None now (Some r) h = tt
still_shown (Some x) now (Some r) h = h.0 ∙ ap (λ (z : HeadRead). Some z) (sym h.1)

-- Units

kept_in : (head now : Option HeadRead) (kept all : List SliceCopy) (unit : ℕ) → (IsSome head → IsSome now) → ((c : SliceCopy) → Contains kept c → Contains all c) → IsKept head kept unit → IsKept now all unit
kept_in head now kept all unit some more (inl (first, is)) = inl (first, some is)
kept_in head now kept all unit some more (inr (slice, e, (c, has, same))) = inr (slice, e, (c, more c has, same))

all_kept_in : (head now : Option HeadRead) (kept all : List SliceCopy) (got : List Offer) → (IsSome head → IsSome now) → ((c : SliceCopy) → Contains kept c → Contains all c) → All (λ (p : Offer). IsKept head kept p.unit) got
    → All (λ (p : Offer). IsKept now all p.unit) got
all_kept_in head now kept all got some more each = All-weaker (λ (p : Offer). IsKept head kept p.unit) (λ (p : Offer). IsKept now all p.unit) (λ p. kept_in head now kept all p.unit some more) got each

-- What happens to an activity

pub keeps_none : (got : List Offer) (kept : List SliceCopy) → got ≡ [] → kept ≡ [] → Keeps got None kept
keeps_none got kept none empty = subst (λ (l : List Offer). Keeps l None kept) (sym none) (subst (λ (l : List SliceCopy). Keeps [] None l) (sym empty) record {
  header = tt;
  copies = All-nil (λ (c : SliceCopy). IsCopy [] (c.slice + 1) c.bytes);
  each = All-nil (λ (p : Offer). IsKept None [] p.unit);
})

pub keeps_same : (got now : List Offer) (head : Option HeadRead) (kept : List SliceCopy) → Keeps got head kept → now ≡ got → Keeps now head kept
keeps_same got now head kept k e = subst (λ (g : List Offer). Keeps g head kept) (sym e) k

pub keeps_head : (got values now : List Offer) (head : Option HeadRead) (kept : List SliceCopy) (r : HeadRead) → Keeps got head kept → now ≡ got ++ values → IsRun packets 0 0 values → r.bytes ≡ joined_bytes values → Keeps now (Some r) kept
keeps_head got values now head kept r k e run joins = subst (λ (g : List Offer). Keeps g (Some r) kept) (sym e) record {
  header = new_copy got values 0 r.bytes run joins;
  copies = copies_more got values kept k.copies;
  each = All-append (λ (p : Offer). IsKept (Some r) kept p.unit) got values (all_kept_in head (Some r) kept kept got (λ is. refl) (λ c has. has) k.each)
      (All-weaker (λ (p : Offer). p.unit ≡ 0) (λ (p : Offer). IsKept (Some r) kept p.unit) (λ p first. inl (first, refl)) values (run_lane packets 0 0 values run));
}

pub keeps_copy : (got values now : List Offer) (head : Option HeadRead) (kept : List SliceCopy) (new : SliceCopy) → Keeps got head kept → now ≡ got ++ values → IsRun packets (new.slice + 1) 0 values → new.bytes ≡ joined_bytes values → Keeps now head (kept ++ new ∷ [])
keeps_copy got values now head kept new k e run joins = subst (λ (g : List Offer). Keeps g head (kept ++ new ∷ [])) (sym e) record {
  header = head_more got values head k.header;
  copies = All-push (λ (c : SliceCopy). IsCopy (got ++ values) (c.slice + 1) c.bytes) kept new (copies_more got values kept k.copies) (new_copy got values (new.slice + 1) new.bytes run joins);
  each = All-append (λ (p : Offer). IsKept head (kept ++ new ∷ []) p.unit) got values
      (all_kept_in head head kept (kept ++ new ∷ []) got (λ is. is) (λ c has. Contains-append_left kept (new ∷ []) c has) k.each)
      (All-weaker (λ (p : Offer). p.unit ≡ new.slice + 1) (λ (p : Offer). IsKept head (kept ++ new ∷ []) p.unit) (λ p of. inr (new.slice, of, (new, Contains-push kept new, refl))) values
      (run_lane packets (new.slice + 1) 0 values run));
}

-- Two activities that are joined

head_or : (got more : List Offer) (head other : Option HeadRead) → IfSome head (λ (r : HeadRead). IsCopy got 0 r.bytes) → IfSome other (λ (r : HeadRead). IsCopy more 0 r.bytes) → IfSome (option_or head other) (λ (r : HeadRead). IsCopy (got ++ more) 0 r.bytes)
head_or got more None other c d = head_after got more other d
head_or got more (Some r) other c d = copy_more got more 0 r.bytes c

some_first : (head other : Option HeadRead) → IsSome head → IsSome (option_or head other)
some_first None other is = absurd (true≢false (sym is))
some_first (Some r) other is = refl

some_second : (head other : Option HeadRead) → IsSome other → IsSome (option_or head other)
some_second None other is = is
some_second (Some r) other is = refl

pub joins_kept : (got more : List Offer) (head next : Option HeadRead) (kept add : List SliceCopy) → Keeps got head kept → Keeps more next add → Keeps (got ++ more) (option_or head next) (kept ++ add)
joins_kept got more head next kept add k k' = record {
  header = head_or got more head next k.header k'.header;
  copies = All-append (λ (c : SliceCopy). IsCopy (got ++ more) (c.slice + 1) c.bytes) kept add (copies_more got more kept k.copies) (copies_after got more add k'.copies);
  each = All-append (λ (p : Offer). IsKept (option_or head next) (kept ++ add) p.unit) got more
      (all_kept_in head (option_or head next) kept (kept ++ add) got (some_first head next) (Contains-append_left kept add) k.each)
      (all_kept_in next (option_or head next) add (kept ++ add) more (some_second head next) (Contains-append_right kept add) k'.each);
}
