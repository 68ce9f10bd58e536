-- The way in which a connection is asked for, and which addresses are tried.
use Rattle.std.specs.Prelude.{Bool, true, false, ◌&&◌, Option, Some, None, option_map}
use Rattle.std.specs.declared.net.{ip_addr.IpAddr.IpAddr, socket_addr.SocketAddr.SocketAddr}
use Rattle.std.specs.declared.net.socket_addr.SocketAddr.TheVariants.{V4, V6}
use Rattle.std.specs.declared.net.ip_addr.IpAddr.TheVariants as ip
use Rattle.tn_net.specs.declared.network.dialing.{Dialing.Dialing, Family.{Family, TheVariants.{Ipv4, Ipv6}}}

-- the family of an address
abbrev pub family_of : IpAddr → Family
family_of (ip.V4 address) = Ipv4
family_of (ip.V6 address) = Ipv6

-- whether an address is of this family, if one is named
abbrev pub is_of : Option Family → SocketAddr → Bool
is_of None address = true
is_of (Some Ipv4) (V4 address) = true
is_of (Some Ipv4) (V6 address) = false
is_of (Some Ipv6) (V4 address) = false
is_of (Some Ipv6) (V6 address) = true

-- whether an address is tried: it is of the family that was asked for, and of that of the source
abbrev pub suits : Dialing → SocketAddr → Bool
suits dialing address = is_of dialing.family address && is_of (option_map family_of dialing.source) address
