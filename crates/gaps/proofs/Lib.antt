mod Portfolios
