use Rattle.transitions.proofs.advance.by_row.Goals as goal

pub returns-in-One : goal.returns-in-One
returns-in-One c = rw c.in-One.is c.plain.ensures

pub returns-in-Two : goal.returns-in-Two
returns-in-Two c = rw c.in-Two.is c.plain-in-Two.ensures

pub returns-in-Three : goal.returns-in-Three
returns-in-Three c = rw c.in-Three.is c.plain-in-Three.ensures

pub returns-in-Four : goal.returns-in-Four
returns-in-Four c = rw c.in-Four.is c.plain-in-Four.ensures

pub returns-in-Five : goal.returns-in-Five
returns-in-Five c = rw c.in-Five.is c.share.ensures

pub returns-in-Six : goal.returns-in-Six
returns-in-Six c = rw c.in-Six.is c.fence.ensures

pub returns-in-Seven : goal.returns-in-Seven
returns-in-Seven c = rw c.in-Seven.is c.plain-in-Seven.ensures

pub returns-in-Eight : goal.returns-in-Eight
returns-in-Eight c = rw c.in-Eight.is c.hold.ensures

pub returns-in-Nine : goal.returns-in-Nine
returns-in-Nine c = rw c.in-Nine.is c.plain-in-Nine.ensures

pub returns-in-Ten : goal.returns-in-Ten
returns-in-Ten c = rw c.in-Ten.is c.plain-in-Ten.ensures
