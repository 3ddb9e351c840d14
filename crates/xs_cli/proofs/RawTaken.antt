-- What was taken of a raw picture, and what is read of it.
use Rattle.std.proofs.Common.{◌≡◌, ℕ, ◌+◌, ◌*◌, ◌<◌, ◌≤◌, ◌++◌, List, [], length, take, drop, Option, Ok, Err, refl, sym, ap, subst, ◌∙◌, arith, length-append, append-nil, append_assoc, inl, inr, ◌⊎◌}
use Rattle.std.specs.Prelude.{Result}
use Rattle.std.specs.Io.KnownBytes.{Consumes, IsAtEnd}
use Rattle.std.proofs.KnownBytes.{Consumes-trans}
use Rattle.std.proofs.lemmas.List.{drop_at, take_at}
use Rattle.std.proofs.lemmas.List.Elements.{All-append}
use Rattle.xs_io.specs.Bytes.{AreByteItems}
use Rattle.xs_lists.specs.Spelling.{BeginsWith}
use Rattle.xs_layout.specs.declared.Shape.{Shape}
use Rattle.xs_params.specs.Picture.{Picture, raw_size, row_first, sample_count, sample_size}
use Rattle.xs_samples.specs.declared.rows.RowRange.{RowRange}
use Rattle.xs_samples.specs.Rows.{AreRowsOf, IsReadOf, rows_size}
use Rattle.xs_endings.specs.declared.stop.Stop.{Stop}
use Rattle.xs_endings.specs.declared.stop.Stop.TheVariants as stop
use Rattle.xs_endings.specs.Ends.{Change, change_of}
use Rattle.xs_endings.proofs.Changes.{rose_after}
use Rattle.xs_cli.specs.declared.raw_input.RawPicture.{RawPicture}
use Rattle.xs_cli.specs.declared.raw_input.RawPicture.TheVariants as raw
use Rattle.xs_cli.specs.RawRead.{IsRawOf}
use Rattle.xs_cli.specs.Steps.{IsRead}

-- so many bytes of the picture were taken, and then those of the rows, or fewer where the input ended
pub record HasTaken (shape : Shape) (picture : Picture) (rows : RowRange) (done : Result (Unit {0}) ℕ) (before after : Option (List ℕ)) (bytes : List ℕ) : Type 0 where
  pub taken : List ℕ
  pub items : AreByteItems taken
  pub consumed : Consumes before after (taken ++ bytes)
  pub place : length taken ≡ row_first shape rows.component rows.first * sample_size shape.depth
  pub some : 1 ≤ length (taken ++ bytes)
  pub state : (whole : List ℕ) → length whole ≡ raw_size shape → BeginsWith whole taken → IsReadOf picture (row_first shape rows.component rows.first) done whole
  pub most : length bytes ≤ rows_size shape rows
  pub end : length bytes < rows_size shape rows → IsAtEnd after

-- the first rows were taken
pub first_taken : (shape : Shape) (picture : Picture) (rows : RowRange) (before after : Option (List ℕ)) (f g : ℕ) (bytes : List ℕ) → row_first shape rows.component rows.first ≡ 0 → 1 ≤ length bytes
    → IsRead (rows_size shape rows) (change_of before after f g) (Ok bytes) → HasTaken shape picture rows (Ok tt) before after bytes
first_taken shape picture rows before after f g bytes front some read =
    let none : 0 * sample_size shape.depth ≡ 0 = omega arith in
    record {
      taken = [];
      items = λ k d below. absurd (omega (arith, below));
      consumed = read.0;
      place = sym (ap (λ n. n * sample_size shape.depth) front ∙ none);
      some = some;
      state = λ whole size begins. subst (λ n. IsReadOf picture n (Ok tt) whole) (sym front) refl;
      most = read.1;
      end = read.2;
    }

-- the rows that were taken are those of each raw picture that begins so
pub rows_taken : (shape : Shape) (rows : RowRange) (taken bytes whole : List ℕ) → length taken ≡ row_first shape rows.component rows.first * sample_size shape.depth → length bytes ≡ rows_size shape rows → length whole ≡ raw_size shape
    → BeginsWith whole (taken ++ bytes) → AreRowsOf shape rows bytes whole
rows_taken shape rows taken bytes whole place size all begins =
    let split : whole ≡ taken ++ (bytes ++ begins.0) = begins.1 ∙ append_assoc taken bytes begins.0 in
    record {
      size = all;
      part = sym (ap (take (rows_size shape rows)) (ap (λ n. drop n whole) (sym place) ∙ ap (drop (length taken)) split ∙ drop_at taken (bytes ++ begins.0) (length taken) refl) ∙ take_at bytes begins.0 (rows_size shape rows) size);
    }

module _ (shape : Shape) (rows : RowRange) (a b c : Option (List ℕ)) (f g h : ℕ) (old : Picture) (done : Result (Unit {0}) ℕ) (bytes : List ℕ) (before : HasTaken shape old rows done a b bytes) (later : f ≤ g) (are : AreByteItems bytes)
    (whole_rows : length bytes ≡ rows_size shape rows) (next : RowRange)
    (on : row_first shape rows.component rows.first * sample_size shape.depth + rows_size shape rows ≡ row_first shape rows.component rows.end * sample_size shape.depth)
    (from : row_first shape next.component next.first ≡ row_first shape rows.component rows.end) where
  front : row_first shape rows.component rows.end ≡ row_first shape next.component next.first
  front = sym from

  all_place : length (before.taken ++ bytes) ≡ row_first shape next.component next.first * sample_size shape.depth
  all_place = length-append before.taken bytes ∙ omega (arith, before.place, whole_rows, on) ∙ ap (λ n. n * sample_size shape.depth) front

  -- the next rows were taken
  pub next_taken : (new : Picture) (said : Result (Unit {0}) ℕ) (more : List ℕ)
      → ((whole : List ℕ) → AreRowsOf shape rows bytes whole → IsReadOf old (row_first shape rows.component rows.first) done whole → IsReadOf new (row_first shape rows.component rows.end) said whole)
      → IsRead (rows_size shape next) (change_of b c g h) (Ok more) → HasTaken shape new next said a c more
  next_taken new said more step read =
      record {
        taken = before.taken ++ bytes;
        items = All-append (λ (item : ℕ). item < 256) before.taken bytes before.items are;
        consumed = Consumes-trans a b c (before.taken ++ bytes) more before.consumed read.0;
        place = all_place;
        some = omega (arith, length-append (before.taken ++ bytes) more, before.some);
        state = λ whole size begins.
            let begun : BeginsWith whole before.taken = (bytes ++ begins.0, begins.1 ∙ append_assoc before.taken bytes begins.0) in
            subst (λ n. IsReadOf new n said whole) front (step whole (rows_taken shape rows before.taken bytes whole before.place whole_rows size begins) (before.state whole size begun));
        most = read.1;
        end = read.2;
      }

  -- the source failed, or memory was wanting
  pub next_untaken : (why : Stop) → row_first shape next.component next.first * sample_size shape.depth + rows_size shape next ≤ raw_size shape → IsRead (rows_size shape next) (change_of b c g h) (Err why) → IsRead (raw_size shape) (change_of a c f h) (Err why)
  next_untaken stop.ReadFault within read =
      (rose_after f g h later read.0, (before.taken ++ bytes) ++ read.1, omega (arith, length-append (before.taken ++ bytes) read.1, all_place, within, read.2), Consumes-trans a b c _ _ before.consumed read.3)
  next_untaken stop.Memory within read =
      ((before.taken ++ bytes) ++ read.0, omega (arith, length-append (before.taken ++ bytes) read.0, all_place, within, read.1), Consumes-trans a b c _ _ before.consumed read.2)
  next_untaken stop.WriteFault within read = absurd read
  next_untaken (stop.Told note) within read = absurd read

-- the whole picture was taken
pub whole_taken : (shape : Shape) (rows : RowRange) (a b : Option (List ℕ)) (f g : ℕ) (old new : Picture) (done said : Result (Unit {0}) ℕ) (bytes : List ℕ) (before : HasTaken shape old rows done a b bytes) → length bytes ≡ rows_size shape rows
    → row_first shape rows.component rows.first * sample_size shape.depth + rows_size shape rows ≡ row_first shape rows.component rows.end * sample_size shape.depth → row_first shape rows.component rows.end ≡ sample_count shape
    → ((whole : List ℕ) → AreRowsOf shape rows bytes whole → IsReadOf old (row_first shape rows.component rows.first) done whole → IsReadOf new (row_first shape rows.component rows.end) said whole)
    → (length (before.taken ++ bytes) ≡ raw_size shape) × IsRead (raw_size shape) (change_of a b f g) (Ok (before.taken ++ bytes)) × IsReadOf new (sample_count shape) said (before.taken ++ bytes)
whole_taken shape rows a b f g old new done said bytes before whole_rows on last step =
    let all = before.taken ++ bytes in
    let size : length all ≡ raw_size shape = length-append before.taken bytes ∙ omega (arith, before.place, whole_rows, on) ∙ ap (λ n. n * sample_size shape.depth) last in
    let begins : BeginsWith all all = ([], sym (append-nil all)) in
    let state = step all (rows_taken shape rows before.taken bytes all before.place whole_rows size begins) (before.state all size (bytes, refl)) in
    (size, (before.consumed, omega (arith, size), λ short. absurd (omega (arith, size, short))), subst (λ n. IsReadOf new n said all) last state)

-- the input ended in the picture
pub cut_taken : (shape : Shape) (rows : RowRange) (a b : Option (List ℕ)) (f g : ℕ) (old : Picture) (done : Result (Unit {0}) ℕ) (bytes : List ℕ) (before : HasTaken shape old rows done a b bytes) → length bytes < rows_size shape rows
    → row_first shape rows.component rows.first * sample_size shape.depth + rows_size shape rows ≤ raw_size shape
    → IsRead (raw_size shape) (change_of a b f g) (Ok (before.taken ++ bytes)) × (length (before.taken ++ bytes) ≡ row_first shape rows.component rows.first * sample_size shape.depth + length bytes)
    × (row_first shape rows.component rows.first * sample_size shape.depth + length bytes < raw_size shape)
cut_taken shape rows a b f g old done bytes before short within =
    let size : length (before.taken ++ bytes) ≡ row_first shape rows.component rows.first * sample_size shape.depth + length bytes = length-append before.taken bytes ∙ omega (arith, before.place) in
    ((before.consumed, omega (arith, size, short, within), λ less. before.end short), size, omega (arith, short, within))

-- what is taken are bytes
pub bytes_taken : (shape : Shape) (rows : RowRange) (a b : Option (List ℕ)) (old : Picture) (done : Result (Unit {0}) ℕ) (bytes : List ℕ) (before : HasTaken shape old rows done a b bytes) → AreByteItems bytes → AreByteItems (before.taken ++ bytes)
bytes_taken shape rows a b old done bytes before are = All-append (λ (item : ℕ). item < 256) before.taken bytes before.items are

pub some_components : (n : ℕ) → (n ≡ 1) ⊎ (n ≡ 3) → 0 < n
some_components n (inl one) = omega (arith, one)
some_components n (inr three) = omega (arith, three)

-- the first rows were not taken
pub first_untaken : (shape : Shape) (size : ℕ) (source : Change) (why : Stop) → size ≤ raw_size shape → IsRead size source (Err why) → IsRead (raw_size shape) source (Err why)
first_untaken shape size source stop.ReadFault within read = (read.0, read.1, omega (arith, within, read.2), read.3)
first_untaken shape size source stop.Memory within read = (read.0, omega (arith, within, read.1), read.2)
first_untaken shape size source stop.WriteFault within read = absurd read
first_untaken shape size source (stop.Told note) within read = absurd read

-- memory was wanting for the picture
pub starved_taken : (shape : Shape) (size : ℕ) (source : Change) (bytes : List ℕ) → size ≤ raw_size shape → IsRead size source (Ok bytes) → IsRead (raw_size shape) source (Err stop.Memory)
starved_taken shape size source bytes within read = (bytes, omega (arith, within, read.1), read.0)

-- a picture that was read has the shape
pub raw_shape : (shape : Shape) (found : RawPicture) (picture : Picture) (bytes : List ℕ) → IsRawOf shape bytes found → found ≡ raw.Whole picture → picture.shape ≡ shape
raw_shape shape found picture bytes is e = ap (λ (p : Picture). p.shape) (subst (IsRawOf shape bytes) e is).3

-- a byte at least was read of it
pub raw_some : (shape : Shape) (found : RawPicture) (bytes : List ℕ) → IsRawOf shape bytes found → 1 ≤ length bytes
raw_some shape (raw.Cut count) bytes is = is.0
raw_some shape (raw.Sample place) bytes is = is.0
raw_some shape (raw.Whole picture) bytes is = is.0
