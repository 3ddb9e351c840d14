-- Laws of pcap files.
use Rattle.std.specs.Prelude.{◌≡◌, ◌↔◌, ℕ, ◌-◌, ◌<◌, ◌≤◌, ◌^◌, ◌⊎◌, None, Some, List, length, map}
use Rattle.std.specs.List.{AllByRecursion}
use Rattle.xs_lists.specs.Packing.{AreBytes}
use Rattle.xs_capture.specs.Capture.{IsCapture}
use Rattle.xs_pcap.specs.declared.unwrapping.Unwrapped.{Unwrapped}
use Rattle.xs_pcap.specs.Numbers.{ones_sum}
use Rattle.xs_pcap.specs.File.{IsPcap, pcap_fault}
use Rattle.xs_pcap.specs.Datagram.{IsDatagram, payload_of}
use Rattle.xs_pcap.specs.Unwrapped.{IsUnwrapped}
use Rattle.xs_pcap.specs.Wrapped.{ipv4_head, most_wrapped, wrapped_file}

-- Captured bytes are read as a datagram exactly where they are one.
pub record DatagramIsRead : Type 0 where
  pub read : (port : ℕ) (captured payload : List ℕ) → AreBytes captured → payload_of port captured ≡ Some payload → IsDatagram port payload captured
  pub spelled : (port : ℕ) (captured payload : List ℕ) → IsDatagram port payload captured → payload_of port captured ≡ Some payload

-- bytes have no fault exactly where they are a file
abbrev pub NoFaultInFile : Type 0
NoFaultInFile = (bytes : List ℕ) → AreBytes bytes → (pcap_fault bytes ≡ None) ↔ ((records : List (List ℕ)) × IsPcap records bytes)

-- a file has one list of records
abbrev pub RecordsAreOne : Type 0
RecordsAreOne = (bytes : List ℕ) (records others : List (List ℕ)) → IsPcap records bytes → IsPcap others bytes → records ≡ others

-- bytes without a fault are unwrapped to one capture and one number
pub record UnwrappedIsOne : Type 0 where
  pub exists : (bytes : List ℕ) (port : ℕ) → AreBytes bytes → pcap_fault bytes ≡ None → (u : Unwrapped) × IsUnwrapped bytes port u
  pub one : (bytes : List ℕ) (port : ℕ) (u v : Unwrapped) → IsUnwrapped bytes port u → IsUnwrapped bytes port v → (u.capture ≡ v.capture) × (u.stepped ≡ v.stepped)

-- a packet that can be wrapped, beside its timestamp
abbrev pub IsEntry : ℕ × List ℕ → Type 0
IsEntry entry = (entry.0 < 2 ^ 32) × (length entry.1 ≤ most_wrapped)

-- What is wrapped is a file, and whatever it is unwrapped to, for any port or for the one that was written, is the capture of its packets, with nothing stepped over.
pub record WrappedIsUnwrapped : Type 0 where
  pub whole : (port : ℕ) (entries : List (ℕ × List ℕ)) → port < 2 ^ 16 → AllByRecursion IsEntry entries → pcap_fault (wrapped_file port entries) ≡ None
  pub unwrapped : (port asked : ℕ) (entries : List (ℕ × List ℕ)) → port < 2 ^ 16 → (asked ≡ 0) ⊎ (asked ≡ port) → AllByRecursion IsEntry entries
      → (u : Unwrapped) → IsUnwrapped (wrapped_file port entries) asked u ↔ (IsCapture (map (λ (entry : ℕ × List ℕ). entry.1) entries) u.capture × (u.stepped ≡ 0))

-- the ones' complement sum of a header with its checksum has all its bits set
abbrev pub ChecksumIsGood : Type 0
ChecksumIsGood = (total : ℕ) → total < 2 ^ 16 → ones_sum (ipv4_head total) ≡ 2 ^ 16 - 1
