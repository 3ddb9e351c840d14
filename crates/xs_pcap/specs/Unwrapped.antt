-- What a pcap file is unwrapped to: 'Classic pcap files'.
use Rattle.std.specs.Prelude.{◌≡◌, ⊤, ℕ, is_none, if◌then◌else◌, Option, None, Some, List, [], filter_map, count_by}
use Rattle.xs_capture.specs.Capture.{IsCapture, frame}
use Rattle.xs_pcap.specs.declared.fault.PcapFault.{PcapFault}
use Rattle.xs_pcap.specs.declared.fault.PcapFault.TheVariants.{Cut, Magic, Link, Memory}
use Rattle.xs_pcap.specs.declared.unwrapping.Unwrapped.{Unwrapped}
use Rattle.xs_pcap.specs.File.{IsPcap, pcap_fault}
use Rattle.xs_pcap.specs.Datagram.{payload_of}

-- the payloads of the records that are datagrams to the port, in order
abbrev pub payloads_of : ℕ → List (List ℕ) → List (List ℕ)
payloads_of port records = filter_map (payload_of port) records

-- how many records are none, and are stepped over
abbrev pub stepped_records : ℕ → List (List ℕ) → ℕ
stepped_records port records = count_by (λ captured. is_none (payload_of port captured)) records

-- what a record adds to a capture, and to the number of those that are stepped over, by the payload that it has or has not
abbrev pub frame_if : Option (List ℕ) → List ℕ
frame_if None = []
frame_if (Some payload) = frame payload

abbrev pub step_if : Option (List ℕ) → ℕ
step_if payload = if is_none payload then 1 else 0

-- the records' payloads as a capture, and the number of other records
pub record IsUnwrapped (bytes : List ℕ) (port : ℕ) (unwrapped : Unwrapped) : Type 0 where
  pub records : List (List ℕ)
  pub file : IsPcap records bytes
  pub capture : IsCapture (payloads_of port records) unwrapped.capture
  pub stepped : unwrapped.stepped ≡ stepped_records port records

-- a fault of the bytes; want of memory is free
abbrev pub IsPcapFault : List ℕ → PcapFault → Type 0
IsPcapFault bytes (Cut place) = pcap_fault bytes ≡ Some (Cut place)
IsPcapFault bytes (Magic value) = pcap_fault bytes ≡ Some (Magic value)
IsPcapFault bytes (Link value) = pcap_fault bytes ≡ Some (Link value)
IsPcapFault bytes Memory = ⊤
