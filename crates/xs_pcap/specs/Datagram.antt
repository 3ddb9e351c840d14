-- A datagram of UDP in IPv4 in an Ethernet frame: 'Classic pcap files'.
use Rattle.std.specs.Prelude.{◌≡◌, ℕ, ◌+◌, ◌*◌, ◌/◌, ◌%◌, ◌^◌, ◌<◌, ◌≤◌, ◌⊎◌, Bool, not, ◌&&◌, ◌||◌, nat_eq, nat_lt, if◌then◌else◌, Option, None, Some, List, ◌∷◌, ◌++◌, length, drop, flat_map, slice_index, slice_range}
use Rattle.std.specs.Int.{to_be_bytes, w16}
use Rattle.std.specs.List.{AllByRecursion}
use Rattle.xs_lists.specs.Fields.{half_word_at}
use Rattle.xs_lists.specs.First.{when}

-- Ethernet

abbrev pub tag_type : ℕ
tag_type = 0x8100

abbrev pub ipv4_type : ℕ
ipv4_type = 0x0800

-- a tag: its type and two bytes
abbrev pub tag_bytes : List ℕ → List ℕ
tag_bytes label = to_be_bytes w16 tag_type ++ label

-- a frame: two addresses, at most two tags, the type of IPv4, and what it carries
pub record IsEthernet (carried frame : List ℕ) : Type 0 where
  pub addresses : List ℕ
  pub labels : List (List ℕ)
  pub joined : frame ≡ addresses ++ flat_map tag_bytes labels ++ to_be_bytes w16 ipv4_type ++ carried
  pub sizes : (length addresses ≡ 12) × (length labels ≤ 2) × AllByRecursion (λ label. length label ≡ 2) labels

-- IPv4

abbrev pub udp_protocol : ℕ
udp_protocol = 17

-- A packet of UDP that is no fragment, and a trailer. Of the flags and the fragment's offset, a half word, all but the two highest bits are 0. The header
-- has a number of words, and the total length counts it and what it carries.
pub record IsIpv4 (carried bytes : List ℕ) : Type 0 where
  pub words : ℕ
  pub service : ℕ
  pub identification : List ℕ
  pub fragment : ℕ
  pub life : ℕ
  pub checksum : List ℕ
  pub addresses : List ℕ
  pub options : List ℕ
  pub trailer : List ℕ
  pub joined : bytes ≡ ((64 + words) ∷ service ∷ to_be_bytes w16 (4 * words + length carried)) ++ identification ++ to_be_bytes w16 fragment ++ (life ∷ udp_protocol ∷ checksum)
      ++ addresses ++ options ++ carried ++ trailer
  pub numbers : (words < 16) × (4 * words + length carried < 2 ^ 16) × (fragment % 2 ^ 14 ≡ 0) × (fragment < 2 ^ 16)
  pub sizes : (length identification ≡ 2) × (length checksum ≡ 2) × (length addresses ≡ 8) × (20 + length options ≡ 4 * words)

-- UDP

-- a datagram to a port, or to any where 0 is asked for, and a trailer; its length counts the header and the payload
pub record IsUdp (port : ℕ) (payload bytes : List ℕ) : Type 0 where
  pub source : List ℕ
  pub destination : ℕ
  pub checksum : List ℕ
  pub trailer : List ℕ
  pub joined : bytes ≡ source ++ to_be_bytes w16 destination ++ to_be_bytes w16 (8 + length payload) ++ checksum ++ payload ++ trailer
  pub numbers : (destination < 2 ^ 16) × (8 + length payload < 2 ^ 16)
  pub sizes : (length source ≡ 2) × (length checksum ≡ 2)
  pub asked : (port ≡ 0) ⊎ (destination ≡ port)

-- the captured bytes are a datagram to the port
pub record IsDatagram (port : ℕ) (payload captured : List ℕ) : Type 0 where
  pub packet : List ℕ
  pub segment : List ℕ
  pub in_frame : IsEthernet packet captured
  pub in_packet : IsIpv4 segment packet
  pub in_segment : IsUdp port payload segment

-- Reading

abbrev pub has_tag : List ℕ → Bool
has_tag bytes = not (nat_lt (length bytes) 4) && nat_eq (half_word_at bytes 0) tag_type

-- what follows a tag, or all where there is none
abbrev pub without_tag : List ℕ → List ℕ
without_tag bytes = if has_tag bytes then drop 4 bytes else bytes

-- what follows the type of IPv4
abbrev pub typed_ipv4 : List ℕ → Option (List ℕ)
typed_ipv4 bytes = when (not (nat_lt (length bytes) 2) && nat_eq (half_word_at bytes 0) ipv4_type) (drop 2 bytes)

-- what follows the addresses and at most two tags
abbrev pub after_tags : List ℕ → List ℕ
after_tags frame = without_tag (without_tag (drop 12 frame))

abbrev pub ethernet_carried : List ℕ → Option (List ℕ)
ethernet_carried frame = if nat_lt (length frame) 12 then None else typed_ipv4 (after_tags frame)

-- version 4, UDP, and no fragment
abbrev pub is_plain : List ℕ → Bool
is_plain bytes = nat_eq (slice_index bytes 0 / 16) 4 && nat_eq (slice_index bytes 9) udp_protocol && nat_eq (half_word_at bytes 6 % 2 ^ 14) 0

-- where the header ends
abbrev pub ipv4_front : List ℕ → ℕ
ipv4_front bytes = 4 * (slice_index bytes 0 % 16)

abbrev pub ipv4_total : List ℕ → ℕ
ipv4_total bytes = half_word_at bytes 2

-- the header has 20 bytes or more, and with what it carries is there
abbrev pub is_whole_ipv4 : List ℕ → Bool
is_whole_ipv4 bytes = not (nat_lt (ipv4_front bytes) 20) && not (nat_lt (ipv4_total bytes) (ipv4_front bytes)) && not (nat_lt (length bytes) (ipv4_total bytes))

abbrev pub ipv4_carried : List ℕ → Option (List ℕ)
ipv4_carried bytes =
    if nat_lt (length bytes) 20 then None else when (is_plain bytes && is_whole_ipv4 bytes) (slice_range bytes (ipv4_front bytes) (ipv4_total bytes))

-- the port is asked for
abbrev pub is_asked : ℕ → List ℕ → Bool
is_asked port bytes = nat_eq port 0 || nat_eq (half_word_at bytes 2) port

abbrev pub udp_length : List ℕ → ℕ
udp_length bytes = half_word_at bytes 4

abbrev pub is_whole_udp : List ℕ → Bool
is_whole_udp bytes = not (nat_lt (udp_length bytes) 8) && not (nat_lt (length bytes) (udp_length bytes))

abbrev pub udp_payload : ℕ → List ℕ → Option (List ℕ)
udp_payload port bytes = if nat_lt (length bytes) 8 then None else when (is_asked port bytes && is_whole_udp bytes) (slice_range bytes 8 (udp_length bytes))

-- the payload of captured bytes that are a datagram to the port, or to any for port 0
unfoldable pub payload_of : ℕ → List ℕ → Option (List ℕ)
payload_of port captured = elim (ethernet_carried captured) [ None ↦ None | Some packet ↦ elim (ipv4_carried packet) [ None ↦ None | Some segment ↦ udp_payload port segment ] ]
