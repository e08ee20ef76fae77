-- The request of an order to check.
use Rattle.generalise_core.specs.CheckWords.{CheckRequest}
use Rattle.generalise_core.specs.declared.words.Order.{Order}

abbrev pub check_request : Order → CheckRequest
check_request order = record { format = order.format; map = order.map.now; table = order.table.now; out = order.out.now; certificate = order.certificate.now }
