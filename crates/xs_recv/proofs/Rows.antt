-- What an activity read, handed and made stays so where it does more.
use Rattle.std.proofs.Common.{◌≡◌, inl, inr, ℕ, Option, Some, None, List, [], ◌∷◌, ◌++◌, All, Bor, refl, sym, ap, ◌∙◌, subst}
use mathlib.Core.Logic.{◌⊎◌}
use Rattle.std.specs.Prelude.{Result, Ok, Err, IfOk, IfSome, MatchResult}
use Rattle.std.specs.Option.{option_copied}
use Rattle.std.specs.List.{Contains}
use Rattle.std.proofs.lemmas.List.Elements.{Contains-append_left, Contains-append_right, Contains-push, All-nil, All-append, All-push, All-weaker, All-contains, All-contains_itself}
use Rattle.xs_params.specs.declared.header.Header.{Header}
use Rattle.xs_lane_core.specs.Machine.{Actor, joined}
use Rattle.xs_lanes.specs.Claiming.{IsRun}
use Rattle.xs_board.specs.declared.head.HeadRead.{HeadRead}
use Rattle.xs_board.specs.Passes.{KnowsStill}
use Rattle.xs_handover.specs.declared.piece.Piece.TheVariants.{Body, Up, Down}
use Rattle.xs_handover.specs.Answers.{IsStripeFrom}
use Rattle.xs_handover.specs.Blocks.{Carried, block_of, blocks, block_place, stripe_of}
use Rattle.xs_handover.specs.Handing.{Hands, IsBlockFrom, IsFiled, source_of}
use Rattle.xs_recv.specs.declared.activity.MadeStripe.{MadeStripe}
use Rattle.xs_recv.specs.declared.activity.SliceCopy.{SliceCopy}
use Rattle.xs_recv.specs.declared.activity.SliceReading.{SliceReading}
use Rattle.xs_recv.specs.declared.activity.SliceReading.TheVariants.{Handed, Bad, Unread}
use Rattle.xs_recv.specs.Activities.{HandsIf, IsBlockKept, IsMadeByKnown, IsReadBy, IsReadByKnown, IsReadable, KeepsRows, KnowsHeader}
use Rattle.xs_recv.specs.Handed.{AreHanded, HasMade}
use Rattle.xs_recv.proofs.Keeping.{known_header, run_lane}

-- A pass that does more

-- what stands in the one stands in the other
abbrev IsWithin : {T : Type 0} → List T → List T → Type 0
IsWithin {T} xs ys = (x : T) → Contains xs x → Contains ys x

within_same : {T : Type 0} (xs ys : List T) → ys ≡ xs → IsWithin xs ys
within_same xs ys e x c = subst (λ l. Contains l x) (sym e) c

within_all : {T : Type 0} (xs ys : List T) → All (Contains ys) xs → IsWithin xs ys
within_all xs ys all x c = All-contains (Contains ys) xs x all c

module _ (v w : Actor Carried) (stored : IsWithin v.stored w.stored) (repeated : IsWithin v.repeated w.repeated) where
  filed_more : (x : Carried) → IsFiled v x → IsFiled w x
  filed_more x (inl c) = inl (stored x c)
  filed_more x (inr c) = inr (repeated (stripe_of x, block_place x) c)

  handed_more : (h : Header) (slice : ℕ) (bytes : List ℕ) → AreHanded h slice bytes v → AreHanded h slice bytes w
  handed_more h slice bytes a = record {
    body = (a.body.0, filed_more (Some (block_of (source_of h slice bytes) (Body a.body.0))) a.body.1);
    up = λ lt. let u = a.up lt in (u.0, filed_more (Some (block_of (source_of h slice bytes) (Up u.0))) u.1);
    down = λ lt. let d = a.down lt in (d.0, filed_more (Some (block_of (source_of h slice bytes) (Down d.0))) d.1);
  }

  read_more : (h : Header) (slice : ℕ) (bytes : List ℕ) (reading : SliceReading) → IsReadBy h v slice bytes reading → IsReadBy h w slice bytes reading
  read_more h slice bytes Handed r = handed_more h slice bytes r
  read_more h slice bytes (Bad fault) r = r
  read_more h slice bytes Unread r = tt

  reading_more : (known now : Option HeadRead) (c : SliceCopy) → KnowsStill known now → IsReadByKnown known v c → IsReadByKnown now w c
  reading_more known now c still (inl e) = inl e
  reading_more known now c still (inr (h, k, read)) = inr (h, known_header known now h still k, read_more h c.slice c.bytes c.reading read)

  readings_more : (known now : Option HeadRead) (kept : List SliceCopy) → KnowsStill known now → All (IsReadByKnown known v) kept → All (IsReadByKnown now w) kept
  readings_more known now kept still all = All-weaker (IsReadByKnown known v) (IsReadByKnown now w) (λ c. reading_more known now c still) kept all

made_more : (v w : Actor Carried) (known now : Option HeadRead) (m : MadeStripe) → IsWithin v.got w.got → KnowsStill known now → IsMadeByKnown known v m → IsMadeByKnown now w m
made_more v w known now m got still (h, k, made) =
    (h, known_header known now h still k, record { values = made.values; run = made.run; got = All-weaker (Contains v.got) (Contains w.got) got made.values made.got; is = made.is })

all_made_more : (v w : Actor Carried) (known now : Option HeadRead) (stripes : List MadeStripe) → IsWithin v.got w.got → KnowsStill known now → All (IsMadeByKnown known v) stripes → All (IsMadeByKnown now w) stripes
all_made_more v w known now stripes got still all = All-weaker (IsMadeByKnown known v) (IsMadeByKnown now w) (λ m. made_more v w known now m got still) stripes all

block_more : (known now : Option HeadRead) (kept all : List SliceCopy) (x : Carried) → KnowsStill known now → IsWithin kept all → IsBlockKept known kept x → IsBlockKept now all x
block_more known now kept all None still more b = b
block_more known now kept all (Some b) still more (h, k, c, has, from) = (h, known_header known now h still k, c, more c has, from)

blocks_more : (known now : Option HeadRead) (kept all : List SliceCopy) (stored : List Carried) → KnowsStill known now → IsWithin kept all → All (IsBlockKept known kept) stored → All (IsBlockKept now all) stored
blocks_more known now kept all stored still more each = All-weaker (IsBlockKept known kept) (IsBlockKept now all) (λ x. block_more known now kept all x still more) stored each

has_made : (stripes all : List MadeStripe) (slice : ℕ) → IsWithin stripes all → HasMade stripes slice → HasMade all slice
has_made stripes all slice more (m, has, is) = (m, more m has, is)

has_made_more : (stripes all : List MadeStripe) (got : List Carried) → IsWithin stripes all → All (λ (x : Carried). HasMade stripes (stripe_of x)) got → All (λ (x : Carried). HasMade all (stripe_of x)) got
has_made_more stripes all got more each =
    All-weaker (λ (x : Carried). HasMade stripes (stripe_of x)) (λ (x : Carried). HasMade all (stripe_of x)) (λ x. has_made stripes all (stripe_of x) more) got each

known_itself : (known : Option HeadRead) → KnowsStill known known
known_itself None = tt
known_itself (Some r) = refl

-- What happens to an activity

pub rows_none : (known : Option HeadRead) (kept : List SliceCopy) (v : Actor Carried) (stripes : List MadeStripe) → v.stored ≡ [] → v.got ≡ [] → kept ≡ [] → stripes ≡ [] → KeepsRows known kept v stripes
rows_none known kept v stripes stored got none empty = record {
  readings = subst (All (IsReadByKnown known v)) (sym none) (All-nil (IsReadByKnown known v));
  blocks = subst (All (IsBlockKept known kept)) (sym stored) (All-nil (IsBlockKept known kept));
  made = subst (All (IsMadeByKnown known v)) (sym empty) (All-nil (IsMadeByKnown known v));
  each = subst (All (λ (x : Carried). HasMade stripes (stripe_of x))) (sym got) (All-nil (λ (x : Carried). HasMade stripes (stripe_of x)));
}

-- nothing is handed and nothing is got
pub rows_same : (known now : Option HeadRead) (kept : List SliceCopy) (v w : Actor Carried) (stripes : List MadeStripe) → KnowsStill known now → w.stored ≡ v.stored → w.repeated ≡ v.repeated → w.got ≡ v.got → KeepsRows known kept v stripes → KeepsRows now kept w stripes
rows_same known now kept v w stripes still stored repeated got k = record {
  readings = readings_more v w (within_same v.stored w.stored stored) (within_same v.repeated w.repeated repeated) known now kept still k.readings;
  blocks = subst (All (IsBlockKept now kept)) (sym stored) (blocks_more known now kept kept v.stored still (λ c has. has) k.blocks);
  made = all_made_more v w known now stripes (within_same v.got w.got got) still k.made;
  each = subst (All (λ (x : Carried). HasMade stripes (stripe_of x))) (sym got) k.each;
}

-- what is known is known still
pub rows_known : (known now : Option HeadRead) (kept : List SliceCopy) (v : Actor Carried) (stripes : List MadeStripe) → KnowsStill known now → KeepsRows known kept v stripes → KeepsRows now kept v stripes
rows_known known now kept v stripes still k = rows_same known now kept v v stripes still refl refl refl k

-- one copy more, which is read by this pass as it stands
reads_copy : (known : Option HeadRead) (kept : List SliceCopy) (v : Actor Carried) (stripes : List MadeStripe) (new : SliceCopy) → IsReadByKnown known v new → KeepsRows known kept v stripes → KeepsRows known (kept ++ new ∷ []) v stripes
reads_copy known kept v stripes new read k = record {
  readings = All-push (IsReadByKnown known v) kept new k.readings read;
  blocks = blocks_more known known kept (kept ++ new ∷ []) v.stored (known_itself known) (Contains-append_left kept (new ∷ [])) k.blocks;
  made = k.made;
  each = k.each;
}

block_of_copy : (known : Option HeadRead) (kept : List SliceCopy) (h : Header) (v : Actor Carried) (new : SliceCopy) (x : Carried) → KnowsHeader known h → All (IsBlockKept known kept) v.stored → Contains v.stored x ⊎ IsBlockFrom (source_of h new.slice new.bytes) x
    → IsBlockKept known (kept ++ new ∷ []) x
block_of_copy known kept h v new x shown old (inl c) = block_more known known kept (kept ++ new ∷ []) x (known_itself known) (Contains-append_left kept (new ∷ [])) (All-contains (IsBlockKept known kept) v.stored x old c)
block_of_copy known kept h v new None shown old (inr from) = from
block_of_copy known kept h v new (Some b) shown old (inr from) = (h, shown, new, Contains-push kept new, from)

-- one copy more, whose rows are handed
hands_copy : (known : Option HeadRead) (kept : List SliceCopy) (v w : Actor Carried) (stripes : List MadeStripe) (h : Header) (new : SliceCopy) → KnowsHeader known h → new.reading ≡ Handed → Hands (source_of h new.slice new.bytes) v w → KeepsRows known kept v stripes
    → KeepsRows known (kept ++ new ∷ []) w stripes
hands_copy known kept v w stripes h new shown is hands k = record {
  readings = All-push (IsReadByKnown known w) kept new
      (readings_more v w (within_all v.stored w.stored hands.stored) (within_all v.repeated w.repeated hands.repeated) known known kept (known_itself known) k.readings)
      (inr (h, shown, subst (IsReadBy h w new.slice new.bytes) (sym is) handed));
  blocks = All-weaker (λ (x : Carried). Contains v.stored x ⊎ IsBlockFrom (source_of h new.slice new.bytes) x) (IsBlockKept known (kept ++ new ∷ [])) (λ x. block_of_copy known kept h v new x shown k.blocks) w.stored hands.only;
  made = all_made_more v w known known stripes (within_same v.got w.got hands.got) (known_itself known) k.made;
  each = subst (All (λ (x : Carried). HasMade stripes (stripe_of x))) (sym hands.got) k.each;
}
  where
    handed : AreHanded h new.slice new.bytes w
    handed = record { body = hands.body; up = hands.up; down = hands.down }

pub rows_copy : (known : Option HeadRead) (kept : List SliceCopy) (v w : Actor Carried) (stripes : List MadeStripe) (header : Option (Bor Header)) (slice : ℕ) (bytes : List ℕ) (reading : SliceReading) → IfSome header (λ (h : Bor Header). IsReadable known h.now slice)
    → HandsIf (option_copied header) slice bytes reading v w → KeepsRows known kept v stripes → KeepsRows known (kept ++ (record { slice = slice; bytes = bytes; reading = reading }) ∷ []) w stripes
rows_copy known kept v w stripes None slice bytes reading can (is, same) k =
    let new : SliceCopy = record { slice = slice; bytes = bytes; reading = reading } in
    subst (λ (z : Actor Carried). KeepsRows known (kept ++ new ∷ []) z stripes) (sym same) (reads_copy known kept v stripes new (inl is) k)
rows_copy known kept v w stripes (Some h) slice bytes Handed can hands k =
    let new : SliceCopy = record { slice = slice; bytes = bytes; reading = Handed } in
    hands_copy known kept v w stripes h.now new can.shown refl hands k
rows_copy known kept v w stripes (Some h) slice bytes (Bad fault) can (is, same) k =
    let new : SliceCopy = record { slice = slice; bytes = bytes; reading = Bad fault } in
    subst (λ (z : Actor Carried). KeepsRows known (kept ++ new ∷ []) z stripes) (sym same) (reads_copy known kept v stripes new (inr (h.now, can.shown, is)) k)
rows_copy known kept v w stripes (Some h) slice bytes Unread can same k =
    let new : SliceCopy = record { slice = slice; bytes = bytes; reading = Unread } in
    subst (λ (z : Actor Carried). KeepsRows known (kept ++ new ∷ []) z stripes) (sym same) (reads_copy known kept v stripes new (inl refl) k)

-- one stripe more
pub rows_stripe : (known : Option HeadRead) (kept : List SliceCopy) (v w : Actor Carried) (stripes : List MadeStripe) (h : Header) (values : List Carried) (new : MadeStripe) → KnowsHeader known h → w.stored ≡ v.stored → w.repeated ≡ v.repeated → w.got ≡ v.got ++ values
    → IsRun blocks new.slice 0 values → IsStripeFrom h new.slice values new.stripe → KeepsRows known kept v stripes → KeepsRows known kept w (stripes ++ new ∷ [])
rows_stripe known kept v w stripes h values new shown stored repeated got run is k = record {
  readings = readings_more v w (within_same v.stored w.stored stored) (within_same v.repeated w.repeated repeated) known known kept (known_itself known) k.readings;
  blocks = subst (All (IsBlockKept known kept)) (sym stored) k.blocks;
  made = All-push (IsMadeByKnown known w) stripes new
      (all_made_more v w known known stripes (λ x c. subst (λ l. Contains l x) (sym got) (Contains-append_left v.got values x c)) (known_itself known) k.made)
      (h, shown, record { values = values; run = run; got = subst (λ l. All (Contains l) values) (sym got) (All-weaker (Contains values) (Contains (v.got ++ values)) (Contains-append_right v.got values) values (All-contains_itself values)); is = is });
  each = subst (All (λ (x : Carried). HasMade (stripes ++ new ∷ []) (stripe_of x))) (sym got)
      (All-append (λ (x : Carried). HasMade (stripes ++ new ∷ []) (stripe_of x)) v.got values (has_made_more stripes (stripes ++ new ∷ []) v.got (Contains-append_left stripes (new ∷ [])) k.each)
      (All-weaker (λ (x : Carried). stripe_of x ≡ new.slice) (λ (x : Carried). HasMade (stripes ++ new ∷ []) (stripe_of x)) (λ x of. (new, Contains-push stripes new, sym of)) values (run_lane blocks new.slice 0 values run)));
}

-- two activities that are joined
pub rows_joined : (known other both : Option HeadRead) (kept add : List SliceCopy) (v w : Actor Carried) (stripes more : List MadeStripe) → KnowsStill known both → KnowsStill other both → KeepsRows known kept v stripes → KeepsRows other add w more
    → KeepsRows both (kept ++ add) (joined v w) (stripes ++ more)
rows_joined known other both kept add v w stripes more still still' k k' = record {
  readings = All-append (IsReadByKnown both (joined v w)) kept add
      (readings_more v (joined v w) (Contains-append_left v.stored w.stored) (Contains-append_left v.repeated w.repeated) known both kept still k.readings)
      (readings_more w (joined v w) (Contains-append_right v.stored w.stored) (Contains-append_right v.repeated w.repeated) other both add still' k'.readings);
  blocks = All-append (IsBlockKept both (kept ++ add)) v.stored w.stored (blocks_more known both kept (kept ++ add) v.stored still (Contains-append_left kept add) k.blocks)
      (blocks_more other both add (kept ++ add) w.stored still' (Contains-append_right kept add) k'.blocks);
  made = All-append (IsMadeByKnown both (joined v w)) stripes more (all_made_more v (joined v w) known both stripes (Contains-append_left v.got w.got) still k.made)
      (all_made_more w (joined v w) other both more (Contains-append_right v.got w.got) still' k'.made);
  each = All-append (λ (x : Carried). HasMade (stripes ++ more) (stripe_of x)) v.got w.got (has_made_more stripes (stripes ++ more) v.got (Contains-append_left stripes more) k.each)
      (has_made_more more (stripes ++ more) w.got (Contains-append_right stripes more) k'.each);
}

-- what is read of a copy
pub record IsReadOf {E : Type 0} (header : Option (Bor Header)) (r : Result SliceCopy E) (v w : Actor Carried) (copy : SliceCopy) : Type 0 where
  pub slice : IfOk r (λ (c : SliceCopy). c.slice ≡ copy.slice)
  pub bytes : IfOk r (λ (c : SliceCopy). c.bytes ≡ copy.bytes)
  pub hands : IfOk r (λ (c : SliceCopy). HandsIf (option_copied header) copy.slice copy.bytes c.reading v w)

-- a copy that was put at the end, where it was read
pub copy_kept : {E : Type 0} (r : Result SliceCopy E) (before now : List SliceCopy) (slice : ℕ) (bytes : List ℕ) (P : SliceReading → Type 0) → MatchResult r (λ (c : SliceCopy). now ≡ before ++ c ∷ []) (λ (x : E). ⊥) → IfOk r (λ (c : SliceCopy). c.slice ≡ slice)
    → IfOk r (λ (c : SliceCopy). c.bytes ≡ bytes) → IfOk r (λ (c : SliceCopy). P c.reading) → (reading : SliceReading) × P reading × (now ≡ before ++ (record { slice = slice; bytes = bytes; reading = reading }) ∷ [])
copy_kept (Ok c) before now slice bytes P added at of is =
    let at' : ℕ → SliceCopy = λ k. record { slice = k; bytes = c.bytes; reading = c.reading } in
    let of' : List ℕ → SliceCopy = λ l. record { slice = slice; bytes = l; reading = c.reading } in
    let one : c ≡ at' slice = ap at' at in
    let two : at' slice ≡ of' bytes = ap of' of in
    (c.reading, is, added ∙ ap (λ (z : SliceCopy). before ++ z ∷ []) (one ∙ two))
copy_kept (Err x) before now slice bytes P added at of is = absurd added
