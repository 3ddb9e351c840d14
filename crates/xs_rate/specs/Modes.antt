-- The mode of a band in a precinct: 'Rate choice'.
use Rattle.std.specs.Prelude.{ℕ, ◌+◌, ◌-◌, ◌<◌, ◌≤◌, Bool, nat_le, unwrap_or, List, [], ◌∷◌, find, sum_by}
use Rattle.std.specs.List.{list_all, range_with_len}
use Rattle.xs_params.specs.declared.header.Header.{Header}
pub use Rattle.xs_spelling.specs.Sizes.{flag_size, count_size}
use Rattle.xs_params.specs.Geometry.{lines_of}
use Rattle.xs_grammar.specs.Precinct.{Content, coded_line}

-- the lines of a band in a precinct
abbrev pub band_lines : Header → ℕ → ℕ → List ℕ
band_lines h precinct band = range_with_len (lines_of h precinct band).0 ((lines_of h precinct band).1 - (lines_of h precinct band).0)

-- the bits of flags and counts together over them in a mode, not rounded to bytes
abbrev pub mode_size : Header → Content → ℕ → ℕ → ℕ → ℕ
mode_size h content precinct band mode = sum_by (λ line. flag_size (coded_line h content mode band line) + count_size (coded_line h content mode band line)) (band_lines h precinct band)

-- the modes
abbrev pub modes : List ℕ
modes = 0 ∷ 1 ∷ 2 ∷ 3 ∷ []

-- none has fewer bits
abbrev pub is_least : (ℕ → ℕ) → ℕ → Bool
is_least size mode = list_all (λ other. nat_le (size mode) (size other)) modes

-- the first of the modes with the fewest bits
abbrev pub fewest : (ℕ → ℕ) → ℕ
fewest size = unwrap_or (find (is_least size) modes) 0

-- the mode that a band has in a precinct
abbrev pub least_mode : Header → Content → ℕ → ℕ → ℕ
least_mode h content precinct band = fewest (mode_size h content precinct band)

-- it is a mode, none has fewer bits, and each mode before it has more
pub record IsFirstFewest (size : ℕ → ℕ) (mode : ℕ) : Type 0 where
  pub is_mode : mode < 4
  pub least : (other : ℕ) → other < 4 → size mode ≤ size other
  pub first : (other : ℕ) → other < mode → size mode < size other

abbrev pub FewestIsFirst : Type 0
FewestIsFirst = (h : Header) (content : Content) (precinct band : ℕ) → IsFirstFewest (mode_size h content precinct band) (least_mode h content precinct band)
