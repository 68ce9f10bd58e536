-- The fault as which an error of the network is reported is no fault of a session.
use Rattle.std.specs.declared.io.Error.{Error}
use Rattle.tn_connect.specs.{Faults.{IsOfNetwork, IsToldAs}, declared.fault.ConnectFault.{ConnectFault, TheVariants.{Network, Session, Memory}}}

pub of_network : (error : Error) (fault : ConnectFault) → IsToldAs error fault → IsOfNetwork fault
of_network error Network told = _
of_network error Memory told = _
of_network error Session told = told
