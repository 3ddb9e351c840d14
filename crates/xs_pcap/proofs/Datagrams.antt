-- Captured bytes are read as a datagram exactly where they are one.
use Rattle.std.proofs.Common.{◌≡◌, ℕ, ◌^◌, ◌<◌, List, length, refl, ap, ◌∙◌, arith, Option, None, Some}
use Rattle.xs_lists.specs.Packing.{AreBytes}
use Rattle.xs_pcap.specs.Datagram.{ethernet_carried, ipv4_carried, IsDatagram, payload_of, udp_payload}
use Rattle.xs_pcap.specs.Laws.{DatagramIsRead}
use Rattle.xs_pcap.proofs.Udp.{udp_is, udp_is_read}
use Rattle.xs_pcap.proofs.Ipv4.{carried_are, ipv4_is, ipv4_is_read}
use Rattle.xs_pcap.proofs.Ethernet.{ethernet_is, ethernet_is_read, packet_are}

pub datagram_is : (port : ℕ) (captured payload : List ℕ) → AreBytes captured → payload_of port captured ≡ Some payload → IsDatagram port payload captured
unfolding payload_of
datagram_is port captured payload all e = in_frame (ethernet_carried captured) refl e
  where
    in_packet : (packet : List ℕ) → ethernet_carried captured ≡ Some packet → (o : Option (List ℕ)) → ipv4_carried packet ≡ o
        → (elim o as (λ (y : Option (List ℕ)). Option (List ℕ)) [ None ↦ None | Some segment ↦ udp_payload port segment ]) ≡ Some payload → IsDatagram port payload captured
    in_packet packet first None second last = absurd (cc last)
    in_packet packet first (Some segment) second last =
        let f = ethernet_is captured packet all first in
        let packets = packet_are captured packet all first in
        let i = ipv4_is packet segment packets second in
        record { packet = packet; segment = segment; in_frame = f; in_packet = i; in_segment = udp_is port segment payload (carried_are packet segment packets second) last }

    in_frame : (o : Option (List ℕ)) → ethernet_carried captured ≡ o
        → (elim o as (λ (y : Option (List ℕ)). Option (List ℕ)) [ None ↦ None | Some packet ↦ elim (ipv4_carried packet) as (λ (y : Option (List ℕ)). Option (List ℕ)) [ None ↦ None | Some segment ↦ udp_payload port segment ] ]) ≡ Some payload
        → IsDatagram port payload captured
    in_frame None first last = absurd (cc last)
    in_frame (Some packet) first last = in_packet packet first (ipv4_carried packet) refl last

pub datagram_is_spelled : (port : ℕ) (captured payload : List ℕ) → IsDatagram port payload captured → payload_of port captured ≡ Some payload
unfolding payload_of
datagram_is_spelled port captured payload d =
    ap (λ (o : Option (List ℕ)). elim o as (λ (y : Option (List ℕ)). Option (List ℕ)) [ None ↦ None | Some packet ↦ elim (ipv4_carried packet) as (λ (y : Option (List ℕ)). Option (List ℕ)) [ None ↦ None | Some segment ↦ udp_payload port segment ] ])
    (ethernet_is_read captured d.packet d.in_frame)
    ∙ ap (λ (o : Option (List ℕ)). elim o as (λ (y : Option (List ℕ)). Option (List ℕ)) [ None ↦ None | Some segment ↦ udp_payload port segment ]) (ipv4_is_read d.packet d.segment d.in_packet)
    ∙ udp_is_read port d.segment payload d.in_segment

-- a payload is that of a frame of a capture
pub payload_short : (port : ℕ) (captured payload : List ℕ) → AreBytes captured → payload_of port captured ≡ Some payload → length payload < 2 ^ 16
payload_short port captured payload all e = let d = datagram_is port captured payload all e in omega (arith, d.in_segment.numbers.1)

pub datagram_is_read : DatagramIsRead
datagram_is_read = record { read = datagram_is; spelled = datagram_is_spelled }
