-- The request of an order.
use Rattle.generalise_core.specs.Words.{Request}
use Rattle.generalise_core.specs.declared.words.Order.{Order}

abbrev pub request : Order → Request
request order = record { format = order.format; map = order.map.now; table = order.table.now; out = order.out.now; certificate = order.certificate.now; splits = order.splits }
