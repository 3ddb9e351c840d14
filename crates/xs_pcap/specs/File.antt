-- A pcap file: 'Classic pcap files'.
use Rattle.std.specs.Prelude.{◌≡◌, ℕ, ◌+◌, ◌-◌, ◌%◌, ◌^◌, ◌<◌, ◌⊎◌, Bool, not, ◌&&◌, ◌||◌, nat_eq, nat_lt, if◌then◌else◌, Result, Ok, Err, Option, None, Some, List, [], ◌∷◌, ◌++◌, length, drop, zero, suc}
use Rattle.xs_lists.specs.Fields.{word_at}
use Rattle.xs_lists.specs.First.{first_of, first_some, when}
use Rattle.xs_lists.specs.Spelling.{SpellsEach}
use Rattle.xs_pcap.specs.declared.numbers.Order.{Order}
use Rattle.xs_pcap.specs.declared.numbers.Order.TheVariants.{Big, Little}
use Rattle.xs_pcap.specs.declared.fault.PcapFault.{PcapFault}
use Rattle.xs_pcap.specs.declared.fault.PcapFault.TheVariants.{Cut, Magic, Link}
use Rattle.xs_pcap.specs.Numbers.{word_bytes, ordered_word_at}

-- the magic of files whose fractions of a second are microseconds, and of those with nanoseconds
abbrev pub microseconds : ℕ
microseconds = 0xa1b2c3d4

abbrev pub nanoseconds : ℕ
nanoseconds = 0xa1b23c4d

-- the link type of Ethernet
abbrev pub ethernet : ℕ
ethernet = 1

-- The file header: the magic, 16 bytes that have no effect, and the link type, whose low half is Ethernet's.
pub record IsFileHeader (order : Order) (bytes : List ℕ) : Type 0 where
  pub magic : ℕ
  pub unread : List ℕ
  pub link : ℕ
  pub joined : bytes ≡ word_bytes order magic ++ unread ++ word_bytes order link
  pub known : (magic ≡ microseconds) ⊎ (magic ≡ nanoseconds)
  pub size : length unread ≡ 16
  pub link_is : (link % 2 ^ 16 ≡ ethernet) × (link < 2 ^ 32)

-- A record: seconds and fraction, the captured length, the original length, and the captured bytes.
pub record IsRecord (order : Order) (captured bytes : List ℕ) : Type 0 where
  pub time : List ℕ
  pub original : List ℕ
  pub joined : bytes ≡ time ++ word_bytes order (length captured) ++ original ++ captured
  pub sizes : (length time ≡ 8) × (length original ≡ 4) × (length captured < 2 ^ 32)

-- The bytes are a file: a header, and these captured bytes, each as a record.
pub record IsPcap (records : List (List ℕ)) (bytes : List ℕ) : Type 0 where
  pub order : Order
  pub header : List ℕ
  pub rest : List ℕ
  pub joined : bytes ≡ header ++ rest
  pub begin : IsFileHeader order header
  pub spelled : SpellsEach (IsRecord order) records rest

-- Reading the header

abbrev pub header_size : ℕ
header_size = 24

abbrev pub is_magic : ℕ → Bool
is_magic number = nat_eq number microseconds || nat_eq number nanoseconds

-- the order in which the first four bytes are a magic, or else the little-endian one
abbrev pub order_of : List ℕ → Order
order_of bytes = if is_magic (word_at bytes 0) then Big else Little

abbrev pub magic_of : List ℕ → ℕ
magic_of bytes = ordered_word_at (order_of bytes) bytes 0

abbrev pub link_of : List ℕ → ℕ
link_of bytes = ordered_word_at (order_of bytes) bytes 20

-- why a header is refused, in this order; the value of another magic is big-endian
abbrev pub header_refusals : List ℕ → List (Bool × PcapFault)
header_refusals bytes =
    (nat_lt (length bytes) header_size, Cut 0)
    ∷ (not (is_magic (magic_of bytes)), Magic (word_at bytes 0))
    ∷ (not (nat_eq (link_of bytes % 2 ^ 16) ethernet), Link (link_of bytes))
    ∷ []

-- Reading the records

-- what stands before the captured bytes
abbrev pub record_front : ℕ
record_front = 16

-- the size of the record at a place, by the captured length that it states
abbrev pub record_size : Order → List ℕ → ℕ
record_size order bytes = record_front + ordered_word_at order bytes 8

-- a whole record stands at the front
abbrev pub has_record : Order → List ℕ → Bool
has_record order bytes = not (nat_lt (length bytes) record_front) && not (nat_lt (length bytes) (record_size order bytes))

-- what is left after at most so many whole records
abbrev pub after_records : ℕ → Order → List ℕ → List ℕ
after_records zero order bytes = bytes
after_records (suc more) order bytes = if has_record order bytes then after_records more order (drop (record_size order bytes) bytes) else bytes

-- what is left where no whole record begins
abbrev pub cut_record : Order → List ℕ → List ℕ
cut_record order bytes = after_records (length bytes) order bytes

-- the first place of a record that is not whole
abbrev pub cut_place : List ℕ → ℕ
cut_place bytes = length bytes - length (cut_record (order_of bytes) (drop header_size bytes))

abbrev pub record_fault : List ℕ → Option PcapFault
record_fault bytes = when (nat_lt (cut_place bytes) (length bytes)) (Cut (cut_place bytes))

-- why bytes are no file: the first cause of the header, or else a record that is cut
unfoldable pub pcap_fault : List ℕ → Option PcapFault
pcap_fault bytes = first_some (first_of (header_refusals bytes) ∷ record_fault bytes ∷ [])

-- what reading a header answers
abbrev pub header_read : List ℕ → Result Order PcapFault
header_read bytes = elim (first_of (header_refusals bytes)) [ None ↦ Ok (order_of bytes) | Some fault ↦ Err fault ]

-- what reading a record at a place answers: where the captured bytes begin and end
abbrev pub record_read : Order → List ℕ → ℕ → Result (ℕ × ℕ) PcapFault
record_read order bytes place =
    if has_record order (drop place bytes) then Ok (place + record_front, place + record_size order (drop place bytes)) else Err (Cut place)
