-- The check of settings whose numbers have room in their fields refuses what a check of the numbers that were asked for refuses.
use Rattle.std.proofs.Common.{◌≡◌, ℕ, ◌^◌, ◌-◌, ◌||◌, ◌<◌, not, Bool, true, false, cond, ltb, List, [], ◌∷◌, ◌++◌, Option, Some, None, map, take, drop, suc, min, refl, sym, ap, subst, inl, inr, ◌∙◌, arith, lit<}
use Rattle.std.specs.Option.{option_map}
use Rattle.std.proofs.lemmas.Bool.Decides.{nat_tests}
use Rattle.xs_lists.specs.First.{first_of}
use Rattle.xs_lists.specs.Packing.{AreBytes}
use Rattle.xs_layout.specs.Geometry.{narrowest_width}
use Rattle.xs_layout.specs.Limits.{is_depth, is_precision, least_payload_type, most_across, most_down, most_feeders, most_payload_type, most_slices, most_workers}
use Rattle.xs_params.specs.Check.{is_outside, refused, setting_refusals, slices_of_settings}
use Rattle.xs_params.specs.declared.settings.Settings.{Settings}
use Rattle.xs_params.specs.declared.settings.Field.TheVariants.{Depth, Bits, Nlx, Nly, Hsl, PayloadType, Workers, Feeders}
use Rattle.xs_params.proofs.Accepted.{depth_most}
use Rattle.xs_params.proofs.InRange.{in_range}
use Rattle.xs_words.specs.Narrow.{as_asked, fitting, narrowed}

step_of : {A : Type 0} (f : A → A) (test : Bool) (answer : A) (rest : Option A) → option_map f (cond test (Some answer) rest) ≡ cond test (Some (f answer)) (option_map f rest)
step_of f true answer rest = refl
step_of f false answer rest = refl

first_of-map : {A : Type 0} (f : A → A) (rows : List (Bool × A)) → option_map f (first_of rows) ≡ first_of (map (λ row. (row.0, f row.1)) rows)
first_of-map f [] = refl
first_of-map f (row ∷ rows) = step_of f row.0 row.1 (first_of rows) ∙ ap (λ rest. cond row.0 (Some (f row.1)) rest) (first_of-map f rows)

-- rows after one that holds do not matter
first_of-cut : {A : Type 0} (front : List (Bool × A)) (test : Bool) (answer : A) (rest : List (Bool × A)) → test ≡ true
    → first_of (front ++ (test, answer) ∷ rest) ≡ first_of (front ++ (true, answer) ∷ [])
first_of-cut [] test answer rest e = ap (λ b. cond b (Some answer) (first_of rest)) e
first_of-cut (row ∷ front) test answer rest e = ap (λ more. cond row.0 (Some row.1) more) (first_of-cut front test answer rest e)

no_depth : (n : ℕ) → ltb n 256 ≡ false → not (is_depth n) ≡ true
no_depth n e = grind (arith, nat_tests)

no_precision : (n : ℕ) → ltb n 256 ≡ false → not (is_precision n) ≡ true
no_precision n e = grind (arith, nat_tests)

too_great : (low most n : ℕ) → most < 256 → ltb n 256 ≡ false → is_outside low most n ≡ true
too_great low most n few e = grind (arith, nat_tests)

too_wide : (n : ℕ) (narrow : Bool) → ltb n 256 ≡ false → (is_outside 1 most_across n || narrow) ≡ true
too_wide n narrow e = grind (arith, nat_tests)

too_deep : (n most : ℕ) → ltb n 256 ≡ false → ltb (min most_down most) n ≡ true
too_deep n most e = grind (arith, nat_tests)

too_high : (n : ℕ) (many : Bool) → ltb n 65536 ≡ false → (is_outside 1 (2 ^ 16 - 1) n || many) ≡ true
too_high n many e = grind (arith, nat_tests)

shallow : (most : ℕ) → ltb (min most_down most) 255 ≡ true
shallow most = grind (arith, nat_tests)

-- the row at a place, where its test holds
cut_at : {A : Type 0} (k : ℕ) (rows : List (Bool × A)) (test : Bool) (answer : A) → rows ≡ take k rows ++ (test, answer) ∷ drop (suc k) rows → test ≡ true
    → first_of rows ≡ first_of (take k rows ++ (true, answer) ∷ [])
cut_at k rows test answer same e = ap first_of same ∙ first_of-cut (take k rows) test answer (drop (suc k) rows) e

abbrev narrowed_by : Settings → (depth bits across down height load threads parts : Bool) → Settings
narrowed_by s depth bits across down height load threads parts = record s {
  shape = record s.shape { depth = cond depth s.shape.depth 255 };
  bits = cond bits s.bits 255;
  nlx = cond across s.nlx 255;
  nly = cond down s.nly 255;
  hsl = cond height s.hsl 0;
  payload_type = cond load s.payload_type 255;
  workers = cond threads s.workers 255;
  feeders = cond parts s.feeders 255;
}

asked_by : (s : Settings) (depth bits across down height load threads parts : Bool) → ltb s.shape.depth 256 ≡ depth → ltb s.bits 256 ≡ bits → ltb s.nlx 256 ≡ across → ltb s.nly 256 ≡ down → ltb s.hsl 65536 ≡ height
    → ltb s.payload_type 256 ≡ load → ltb s.workers 256 ≡ threads → ltb s.feeders 256 ≡ parts
    → first_of (setting_refusals s) ≡ option_map (as_asked s) (first_of (setting_refusals (narrowed_by s depth bits across down height load threads parts)))
asked_by s false bits across down height load threads parts p1 p2 p3 p4 p5 p6 p7 p8 =
    cut_at 2 (setting_refusals s) (not (is_depth s.shape.depth)) (refused Depth s.shape.depth) refl (no_depth s.shape.depth p1)
    ∙ sym (first_of-map (as_asked s) (take 2 (setting_refusals s) ++ (true, refused Depth 255) ∷ []))
asked_by s true false across down height load threads parts p1 p2 p3 p4 p5 p6 p7 p8 =
    cut_at 3 (setting_refusals s) (not (is_precision s.bits)) (refused Bits s.bits) refl (no_precision s.bits p2)
    ∙ sym (first_of-map (as_asked s) (take 3 (setting_refusals s) ++ (true, refused Bits 255) ∷ []))
asked_by s true true false down height load threads parts p1 p2 p3 p4 p5 p6 p7 p8 =
    let narrow = ltb (narrowest_width s.shape.format s.shape.width) (2 ^ s.nlx) in
    cut_at 4 (setting_refusals s) (is_outside 1 most_across s.nlx || narrow) (refused Nlx s.nlx) refl (too_wide s.nlx narrow p3)
    ∙ sym (first_of-map (as_asked s) (take 4 (setting_refusals s) ++ (true, refused Nlx 255) ∷ []))
asked_by s true true true false height load threads parts p1 p2 p3 p4 p5 p6 p7 p8 =
    cut_at 5 (setting_refusals s) (ltb (min most_down s.nlx) s.nly) (refused Nly s.nly) refl (too_deep s.nly s.nlx p4)
    ∙ sym (first_of-map (as_asked s) (take 5 (setting_refusals s) ++ (true, refused Nly 255) ∷ []))
    ∙ ap (option_map (as_asked s)) (sym (cut_at 5 (setting_refusals (narrowed_by s true true true false height load threads parts)) (ltb (min most_down s.nlx) 255) (refused Nly 255) refl (shallow s.nlx)))
asked_by s true true true true false load threads parts p1 p2 p3 p4 p5 p6 p7 p8 =
    let many = ltb most_slices (slices_of_settings s) in
    cut_at 6 (setting_refusals s) (is_outside 1 (2 ^ 16 - 1) s.hsl || many) (refused Hsl s.hsl) refl (too_high s.hsl many p5)
    ∙ sym (first_of-map (as_asked s) (take 6 (setting_refusals s) ++ (true, refused Hsl 0) ∷ []))
asked_by s true true true true true false threads parts p1 p2 p3 p4 p5 p6 p7 p8 =
    cut_at 11 (setting_refusals s) (is_outside least_payload_type most_payload_type s.payload_type) (refused PayloadType s.payload_type) refl (too_great least_payload_type most_payload_type s.payload_type (lit< tt) p6)
    ∙ sym (first_of-map (as_asked s) (take 11 (setting_refusals s) ++ (true, refused PayloadType 255) ∷ []))
asked_by s true true true true true true false parts p1 p2 p3 p4 p5 p6 p7 p8 =
    cut_at 15 (setting_refusals s) (is_outside 1 most_workers s.workers) (refused Workers s.workers) refl (too_great 1 most_workers s.workers (lit< tt) p7)
    ∙ sym (first_of-map (as_asked s) (take 15 (setting_refusals s) ++ (true, refused Workers 255) ∷ []))
asked_by s true true true true true true true false p1 p2 p3 p4 p5 p6 p7 p8 =
    cut_at 16 (setting_refusals s) (is_outside 1 most_feeders s.feeders) (refused Feeders s.feeders) refl (too_great 1 most_feeders s.feeders (lit< tt) p8)
    ∙ sym (first_of-map (as_asked s) (take 16 (setting_refusals s) ++ (true, refused Feeders 255) ∷ []))
asked_by s true true true true true true true true p1 p2 p3 p4 p5 p6 p7 p8 = sym (first_of-map (as_asked s) (setting_refusals s))

-- the check of the narrowed settings refuses what a check of the settings would
pub refused_as_asked : (s : Settings) → first_of (setting_refusals s) ≡ option_map (as_asked s) (first_of (setting_refusals (narrowed s)))
refused_as_asked s =
    asked_by s (ltb s.shape.depth 256) (ltb s.bits 256) (ltb s.nlx 256) (ltb s.nly 256) (ltb s.hsl 65536) (ltb s.payload_type 256) (ltb s.workers 256) (ltb s.feeders 256) refl refl refl refl refl refl refl refl

-- Settings that are not refused

kept_by : (b : Bool) (number other : ℕ) → (cond b number other ≡ other → ⊥) → cond b number other ≡ number
kept_by true number other apart = refl
kept_by false number other apart = absurd (apart refl)

kept : (bits other number : ℕ) → (fitting bits other number ≡ other → ⊥) → fitting bits other number ≡ number
kept bits other number apart = kept_by (ltb number (2 ^ bits)) number other apart

kept_below : (number : ℕ) → fitting 8 255 number < 255 → fitting 8 255 number ≡ number
kept_below number below = kept 8 255 number (λ e. omega (arith, below, e))

replaced : (s : Settings) (depth bits across down height load threads parts : ℕ) → depth ≡ s.shape.depth → bits ≡ s.bits → across ≡ s.nlx → down ≡ s.nly → height ≡ s.hsl → load ≡ s.payload_type → threads ≡ s.workers → parts ≡ s.feeders
    → record s { shape = record s.shape { depth = depth }; bits = bits; nlx = across; nly = down; hsl = height; payload_type = load; workers = threads; feeders = parts } ≡ s
replaced s depth bits across down height load threads parts e1 e2 e3 e4 e5 e6 e7 e8 = rw (e1, e2, e3, e4, e5, e6, e7, e8) refl

-- settings of which none is refused once they are narrowed have room for all their numbers
pub narrowed_same : (s : Settings) → s.boxes ≡ [] → first_of (setting_refusals (narrowed s)) ≡ None → narrowed s ≡ s
narrowed_same s empty none =
    let bytes : AreBytes s.boxes = subst AreBytes (sym empty) tt in
    let range = in_range (narrowed s) bytes (record { none = none }) in
    let deep : fitting 8 255 s.shape.depth ≡ s.shape.depth = kept_below s.shape.depth (omega (arith, depth_most (fitting 8 255 s.shape.depth) range.shape.depth)) in
    let fine : fitting 8 255 s.bits ≡ s.bits = kept_below s.bits (elim range.bits [ inl e ↦ omega (arith, e) | inr e ↦ omega (arith, e) ]) in
    let across : fitting 8 255 s.nlx ≡ s.nlx = kept_below s.nlx (omega (arith, range.nlx)) in
    let down : fitting 8 255 s.nly ≡ s.nly = kept_below s.nly (omega (arith, range.nly)) in
    let high : fitting 16 0 s.hsl ≡ s.hsl = kept 16 0 s.hsl (λ e. omega (arith, range.hsl, e)) in
    let load : fitting 8 255 s.payload_type ≡ s.payload_type = kept_below s.payload_type (omega (arith, range.payload_type)) in
    let threads : fitting 8 255 s.workers ≡ s.workers = kept_below s.workers (omega (arith, range.workers)) in
    let parts : fitting 8 255 s.feeders ≡ s.feeders = kept_below s.feeders (omega (arith, range.feeders)) in
    replaced s _ _ _ _ _ _ _ _ deep fine across down high load threads parts
