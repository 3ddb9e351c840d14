-- The packets of a precinct at a candidate.
use Rattle.std.specs.Prelude.{ℕ, Bool}
use Rattle.std.specs.List.{sum_by, list_all}
use Rattle.xs_layout.specs.declared.Candidate.{Candidate}
use Rattle.xs_params.specs.declared.header.Header.{Header}
use Rattle.xs_params.specs.Rows.{Rows}
use Rattle.xs_params.specs.Geometry.{packets_of}
use Rattle.xs_sizes.specs.Measured.{packet_fits_at, packet_size_at}

-- their bytes, and whether each length in them has room in its field
abbrev pub packets_size_at : Header → Rows → Candidate → ℕ → ℕ
packets_size_at h rows candidate precinct = sum_by (packet_size_at h rows candidate precinct) (packets_of h precinct)

abbrev pub packets_fit_at : Header → Rows → Candidate → ℕ → Bool
packets_fit_at h rows candidate precinct = list_all (packet_fits_at h rows candidate precinct) (packets_of h precinct)
